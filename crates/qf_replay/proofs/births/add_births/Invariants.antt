use Rattle.std.proofs.Common.{◌≡◌, ◌≤◌, ◌++◌, drop}
use Rattle.qf_ir.specs.Replay.{inserted_count}
use Rattle.qf_replay.specs.BirthPlaces.{births_from, births_of}
use Rattle.qf_replay.proofs.births.add_births.Given as goal

abbrev pub invariant-loop-i : goal.invariant-loop-i
invariant-loop-i l = record {
  count : inserted_count (drop l.i l.statements) ≤ inserted_count l.statements;
  places : l.places ++ births_from l.i (drop l.i l.statements) ≡ l.fn.places ++ births_of l.statements;
}
