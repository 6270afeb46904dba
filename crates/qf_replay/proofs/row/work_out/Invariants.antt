use Rattle.std.proofs.Common.{◌≡◌, drop}
use Rattle.qf_ir.specs.Replay.{with_sets}
use Rattle.qf_ir.specs.Fits.{SetsFit}
use Rattle.qf_replay.proofs.row.work_out.Given as goal

abbrev pub invariant-loop-set : goal.invariant-loop-set
invariant-loop-set l = record {
  fits : SetsFit (drop l.set-index l.sets) l.before l.point;
  cells : with_sets (drop l.set-index l.sets) l.before l.point l.fresh ≡ with_sets l.sets l.before l.point l.fn.fresh;
}
