use Rattle.std.proofs.Common.{◌≤◌, length, not}
use Rattle.std.specs.List.{count_by}
use Rattle.qf_slice.proofs.Marking.{Marked}
use Rattle.qf_slice.proofs.marks.needed_list.Given as goal

abbrev pub invariant-loop-next : goal.invariant-loop-next
invariant-loop-next l = record {
  marked : Marked l.program.statements l.seeds l.reaches l.marks.items l.joined;
  from : l.from ≤ length l.reaches;
}

abbrev pub decreases-loop-next : goal.decreases-loop-next
decreases-loop-next l = count_by not l.marks.items
