use Rattle.std.proofs.Common.{◌≡◌, ◌++◌, ◌+◌, drop}
use Rattle.qf_slice.specs.Marks.{marked_from}
use Rattle.qf_slice.proofs.marks.marked.Given as goal

abbrev pub invariant-loop-i : goal.invariant-loop-i
invariant-loop-i l = l.params ++ marked_from (l.i + 1) (drop l.i l.marks) ≡ marked_from 1 l.marks
