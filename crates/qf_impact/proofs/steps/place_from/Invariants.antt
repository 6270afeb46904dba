use Rattle.std.proofs.Common.{◌≡◌, ◌+◌, drop}
use Rattle.qf_ir.specs.Replay.{place_from}
use Rattle.qf_impact.proofs.steps.place_from.Given as goal

abbrev pub invariant-loop-i : goal.invariant-loop-i
invariant-loop-i l = l.i + place_from (drop l.i l.columns) l.column ≡ place_from l.columns l.column
