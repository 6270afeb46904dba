-- What every row has to become: the goal of a row with a complaint, and of one without.
use Rattle.std.specs.Prelude.{ℕ, zero, suc, ◌+◌, ◌==◌, List, [], ◌∷◌, if◌then◌else◌, map}
use Rattle.std.specs.declared.option.Option.{Option}
use Rattle.std.specs.declared.option.Option.TheVariants.{Some, None}
use Rattle.qf_base.specs.declared.names.RowName.{RowName}
use Rattle.qf_ir.specs.declared.cell.Cell.{Cell}
use Rattle.qf_ir.specs.declared.cell.Ask.{Ask}
use Rattle.qf_ir.specs.declared.cell.Ask.TheVariants.{Absent, Present}
use Rattle.qf_ir.specs.declared.cell.Outcome.{Outcome}
use Rattle.qf_ir.specs.declared.cell.Outcome.TheVariants as outcome
use Rattle.qf_ir.specs.declared.cell.Goal.{Goal}
use Rattle.qf_ir.specs.declared.cell.Goal.TheVariants as goal
use Rattle.qf_ir.specs.declared.ast.Statement.{Statement}
use Rattle.qf_ir.specs.Value.{Cells, Values, cell_at}
use Rattle.qf_ir.specs.Replay.{same_row, outcome_of}
use Rattle.qf_ir.specs.Repairs.{row_names}

-- without a complaint the row keeps its old outcome
abbrev pub kept : Outcome → Goal
kept outcome.Gone = goal.Gone
kept (outcome.There cells) = goal.There (map (λ c. Some c) cells)

-- an unlisted cell is as it was, or free where the row was gone
abbrev pub old_cell : Outcome → ℕ → Option Cell
old_cell outcome.Gone column = None
old_cell (outcome.There cells) column = Some (cell_at cells column)

-- the listed cell of a column, or else the old one
abbrev pub listed_or : List (ℕ × Cell) → ℕ → Option Cell → Option Cell
listed_or [] column other = other
listed_or (l ∷ listed) column other = if l.0 == column then Some l.1 else listed_or listed column other

abbrev pub asked_cells : ℕ → ℕ → List (ℕ × Cell) → Outcome → List (Option Cell)
asked_cells first zero listed old = []
asked_cells first (suc n) listed old = listed_or listed first (old_cell old first) ∷ asked_cells (first + 1) n listed old

-- the goal of a row with or without a complaint, by its outcome at the old point
abbrev pub goal_of : ℕ → Option Ask → Outcome → Goal
goal_of width None old = kept old
goal_of width (Some Absent) old = goal.Gone
goal_of width (Some (Present listed)) old = goal.There (asked_cells 0 width listed old)

-- the complaint about a row, if there is one
abbrev pub ask_for : List (RowName × Ask) → RowName → Option Ask
ask_for [] row = None
ask_for (a ∷ asks) row = if same_row a.0 row then Some a.1 else ask_for asks row

-- the goals of all rows in row order, by their outcomes at the old point
abbrev pub goals_of : ℕ → List Cells → List Statement → List (RowName × Ask) → Values → List Goal
goals_of width table statements asks olds =
    map (λ row. goal_of width (ask_for asks row) (outcome_of width table statements row olds)) (row_names table statements)
