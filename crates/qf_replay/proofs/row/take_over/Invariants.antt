use Rattle.std.proofs.Common.{◌≡◌, drop}
use Rattle.qf_replay.specs.Rows.{taken}
use Rattle.qf_replay.proofs.row.take_over.Given as goal

abbrev pub invariant-loop-set : goal.invariant-loop-set
invariant-loop-set l = taken (drop l.set-index l.sets) l.fresh l.cells ≡ taken l.sets l.fresh l.fn.cells
