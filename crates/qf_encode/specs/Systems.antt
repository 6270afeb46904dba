-- The inequalities of a row's goal, and the whole system of a row.
use Rattle.std.specs.Prelude.{◌≡◌, ◌≤ℤ◌, ◌↔◌, List, [], ◌∷◌, ◌++◌, ℕ, length, ℤ, pos, neg_ℤ}
use Rattle.std.specs.declared.option.Option.{Option}
use Rattle.std.specs.declared.option.Option.TheVariants.{Some, None}
use Rattle.qf_base.specs.Values.{Bounds, value_of_var, IsWithin}
use Rattle.qf_lin.specs.declared.inequality.Inequality.{Inequality}
use Rattle.qf_lin.specs.declared.inequality.System.{System}
use Rattle.qf_lin.specs.Inequalities.{AllHold}
use Rattle.qf_circuit.specs.Circuits.{hull_of, eval, IsCircuit}
use Rattle.qf_rows.specs.Encoding.{inequality, plus, minus, rows_of, selectors_of, GivesParams}
use Rattle.qf_ir.specs.declared.cell.Cell.{Cell}
use Rattle.qf_ir.specs.declared.cell.Goal.{Goal}
use Rattle.qf_ir.specs.declared.cell.Goal.TheVariants as goal
use Rattle.qf_ir.specs.Value.{number_of}
use Rattle.qf_encode.specs.declared.coded.Coded.{Coded}

-- a stated cell: the definition is at least and at most its number
abbrev pub cell_rows : ℕ → Option Cell → List Inequality
cell_rows v None = []
cell_rows v (Some cell) =
    inequality (plus v ∷ []) (number_of cell) ∷ inequality (minus v ∷ []) (neg_ℤ (number_of cell)) ∷ []

abbrev pub cells_rows : List ℕ → List (Option Cell) → List Inequality
cells_rows [] wanted = []
cells_rows (v ∷ vs) [] = []
cells_rows (v ∷ vs) (w ∷ wanted) = cell_rows v w ++ cells_rows vs wanted

abbrev pub goal_rows : Coded → Goal → List Inequality
goal_rows c goal.Gone = inequality (minus c.live ∷ []) (pos 0) ∷ []
goal_rows c (goal.There wanted) = inequality (plus c.live ∷ []) (pos 1) ∷ cells_rows c.columns wanted

-- the inequalities over the hull of the root box, and then those of the goal
abbrev pub system_of : Coded → Bounds → Goal → System
system_of c root g = record {
  inequalities = rows_of (hull_of root c.circuit) c.circuit ++ goal_rows c g;
  vars = length c.circuit;
  selectors = selectors_of c.circuit;
}

-- ---- what they say

abbrev pub CellIs : List ℤ → ℕ → Option Cell → Type 0
CellIs values v None = Unit {0}
CellIs values v (Some cell) = value_of_var values v ≡ number_of cell

abbrev pub CellsAre : List ℤ → List ℕ → List (Option Cell) → Type 0
CellsAre values [] wanted = Unit {0}
CellsAre values (v ∷ vs) [] = Unit {0}
CellsAre values (v ∷ vs) (w ∷ wanted) = CellIs values v w × CellsAre values vs wanted

-- the values give the row its goal
abbrev pub GivesGoal : List ℤ → Coded → Goal → Type 0
GivesGoal values c goal.Gone = value_of_var values c.live ≤ℤ pos 0
GivesGoal values c (goal.There wanted) = (pos 1 ≤ℤ value_of_var values c.live) × CellsAre values c.columns wanted

-- the goal's inequalities hold exactly where the values give the row its goal
abbrev pub GoalsAreEncoded : Type 0
GoalsAreEncoded =
    (c : Coded) (g : Goal) (values : List ℤ) → AllHold (goal_rows c g) values ↔ GivesGoal values c g

-- Among the values within the hull of a box that have the parameters of one of its points, those that satisfy a row's
-- system are the row's own values alone, where they give the row its goal, and none otherwise.
abbrev pub SystemsMatch : Type 0
SystemsMatch =
    (c : Coded) (root : Bounds) (g : Goal) (point values : List ℤ) → IsCircuit c.circuit → IsWithin point root → IsWithin values (hull_of root c.circuit) → GivesParams point values c.circuit → AllHold (system_of c root g).inequalities values ↔ ((values ≡ eval point c.circuit) × GivesGoal (eval point c.circuit) c g)
