use Rattle.std.proofs.Common.{◌≡◌, ◌+◌, [], take, drop}
use Rattle.qf_goal.specs.Asked.{first_fault}
use Rattle.qf_goal.specs.RowPlaces.{marks_of, rows_in}
use Rattle.qf_goal.proofs.marks.marks_of.Given as goal

abbrev pub invariant-loop-i : goal.invariant-loop-i
invariant-loop-i l =
    (l.marks ≡ marks_of l.program (take l.i (rows_in l.complaints)))
    × (first_fault l.program (take l.i (rows_in l.complaints)) (l.i + 1) (drop l.i l.complaints) ≡ first_fault l.program [] 1 l.complaints)
