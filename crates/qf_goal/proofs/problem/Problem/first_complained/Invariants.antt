use Rattle.std.proofs.Common.{◌≡◌, drop}
use Rattle.std.specs.List.{find, AllByRecursion}
use Rattle.qf_ir.specs.Plan.{RowExists}
use Rattle.qf_goal.specs.Case.{complained_rows, misses}
use Rattle.qf_goal.proofs.problem.Problem.first_complained.Given as goal

abbrev pub invariant-loop-row : goal.invariant-loop-row
invariant-loop-row l =
    (l.room ≡ l.initial.room) × AllByRecursion (RowExists l.self.plan) (drop l.row-index (complained_rows l.self))
    × (find (misses l.self l.point) (drop l.row-index (complained_rows l.self)) ≡ find (misses l.self l.point) (complained_rows l.self))
