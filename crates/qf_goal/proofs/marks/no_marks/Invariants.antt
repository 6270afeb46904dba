use Rattle.std.proofs.Common.{◌≡◌, replicate, None}
use Rattle.qf_goal.proofs.marks.no_marks.Given as goal

abbrev pub invariant-loop-place : goal.invariant-loop-place
invariant-loop-place l = l.marks ≡ replicate l._place None
