use Rattle.std.proofs.Common.{◌≡◌, drop}
use Rattle.std.specs.List.{find}
use Rattle.qf_goal.specs.Case.{case_rows}
use Rattle.qf_goal.specs.Kept.{misses_unasked}
use Rattle.qf_goal.proofs.problem.Problem.first_other.Given as goal

abbrev pub invariant-loop-place : goal.invariant-loop-place
invariant-loop-place l =
    (l.room ≡ l.initial.room) × (find (misses_unasked l.self l.point) (drop l.place (case_rows l.self)) ≡ find (misses_unasked l.self l.point) (case_rows l.self))
