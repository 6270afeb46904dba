use Rattle.std.proofs.Common.{◌≡◌, drop, length}
use Rattle.qf_width.specs.Sets.{put_in}
use Rattle.qf_width.proofs.statements.put.Given as goal

abbrev pub invariant-loop-i : goal.invariant-loop-i
invariant-loop-i l = record {
  long : length l.fresh ≡ length l.sets;
  widths : put_in (drop l.i l.sets) (drop l.i l.fresh) l.widths ≡ put_in l.sets l.fresh l.fn.widths;
  len : length l.widths ≡ length l.fn.widths;
}
