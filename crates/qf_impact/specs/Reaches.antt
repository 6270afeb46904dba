-- What is said of a parameter's reach.
use Rattle.std.specs.Prelude.{ℕ, ◌+◌, ◌-◌, ◌<◌, ◌≤◌, List, length}
use Rattle.std.specs.Bool.{Decides}
use Rattle.qf_ir.specs.declared.ast.Statement.{Statement}
use Rattle.qf_ir.specs.declared.column_set.ColumnSet.{ColumnSet}
use Rattle.qf_ir.specs.ColumnSets.{has}
use Rattle.qf_ir.specs.Flow.{Place, Reaches}
use Rattle.qf_ir.specs.Plan.{Plan}
use Rattle.qf_impact.specs.Sets.{set_at}

-- the set has exactly the places that the parameter reaches
abbrev pub IsReach : List Statement → ℕ → ColumnSet → Type 0
IsReach statements k set = (place : Place) → Decides (has set place) (Reaches k statements place)

-- one set for each parameter, at its number less one
abbrev pub AreReaches : List Statement → List ColumnSet → Type 0
AreReaches statements sets = (k : ℕ) → 1 ≤ k → k ≤ length sets → IsReach statements k (set_at sets (k - 1))

-- .. for the parameters from a number on
abbrev pub AreReachesFrom : ℕ → List Statement → List ColumnSet → Type 0
AreReachesFrom first statements sets = (i : ℕ) → i < length sets → IsReach statements (first + i) (set_at sets i)

-- what reaches something is a parameter of the program
abbrev pub ReachesAreOwn : Plan → Type 0
ReachesAreOwn plan = (k : ℕ) (place : Place) → Reaches k plan.statements place → (1 ≤ k) × (k ≤ length plan.olds)
