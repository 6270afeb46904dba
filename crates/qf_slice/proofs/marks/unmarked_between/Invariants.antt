use Rattle.qf_slice.specs.Marks.{AreSettled}
use Rattle.qf_slice.proofs.marks.unmarked_between.Given as goal

abbrev pub invariant-loop-i : goal.invariant-loop-i
invariant-loop-i l = AreSettled l.reaches l.marks l.joined l.low l.i
