use Rattle.std.proofs.Common.{◌≡◌, ◌<◌, ◌≤◌, drop, slice_get}
use Rattle.qf_ir.specs.Replay.{inserted_count}
use Rattle.qf_replay.specs.BirthPlaces.{births_from, births_of}
use Rattle.qf_replay.proofs.births.find_birth.Given as goal

abbrev pub invariant-loop-i : goal.invariant-loop-i
invariant-loop-i l = record {
  exists : l.tuple < inserted_count (drop l.i l.statements);
  small : l.tuple ≤ l.before;
  place : slice_get (births_from l.i (drop l.i l.statements)) l.tuple ≡ slice_get (births_of l.statements) l.before;
}
