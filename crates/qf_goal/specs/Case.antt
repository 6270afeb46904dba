-- A problem and its answers: the goal of each row, when a point repairs, the least repair, and the order in which rows are
-- tried.
use Rattle.std.specs.Prelude.{ℤ, Bool, not, List, ◌++◌, length, is_some}
use Rattle.std.specs.declared.option.Option.{Option}
use Rattle.std.specs.List.{filter, find}
use Rattle.qf_base.specs.declared.names.RowName.{RowName}
use Rattle.qf_ir.specs.declared.cell.Ask.{Ask}
use Rattle.qf_ir.specs.declared.cell.Goal.{Goal}
use Rattle.qf_ir.specs.declared.cell.Outcome.{Outcome}
use Rattle.qf_ir.specs.declared.table.Table.{Table}
use Rattle.qf_ir.specs.Plan.{Plan, Repairs, final_outcome}
use Rattle.qf_ir.specs.Repairs.{row_names, meets, repairs}
use Rattle.qf_ir.specs.Goals.{ask_for, goal_of, goals_of}
use Rattle.qf_point.specs.Domains.{DomainBox}
use Rattle.qf_point.specs.Least.{Least, Nothing}

-- what a row of a program has to become, by what is asked of it and what becomes of it with the old constants
abbrev pub goal_in : Plan → Table → List (RowName × Ask) → RowName → Goal
goal_in plan table asks row = goal_of (length plan.columns) (ask_for asks row) (final_outcome plan table row plan.olds)

-- the log as a program over the table, what the complaints ask of their rows, in the order of the complaints, and the
-- domains of the constants
pub record Case : Type 0 where
  pub plan : Plan
  pub table : Table
  pub asks : List (RowName × Ask)
  pub domains : DomainBox

-- the rows that exist, in row order
abbrev pub case_rows : Case → List RowName
case_rows case = row_names case.table.rows case.plan.statements

-- what becomes of a row at a point
abbrev pub outcome_at : Case → List ℤ → RowName → Outcome
outcome_at case point row = final_outcome case.plan case.table row point

-- what a row has to become
abbrev pub goal_at : Case → RowName → Goal
goal_at case row = goal_in case.plan case.table case.asks row

-- what every row has to become, in row order
abbrev pub case_goals : Case → List Goal
case_goals case = goals_of (length case.plan.columns) case.table.rows case.plan.statements case.asks case.plan.olds

-- with these constants every row meets its goal
abbrev pub mends : Case → List ℤ → Bool
mends case point = repairs (length case.plan.columns) case.table.rows case.plan.statements (case_goals case) point

abbrev pub Mends : Case → List ℤ → Type 0
Mends case point = Repairs case.plan case.table (case_goals case) point

-- the point lies in the domains and repairs, and no better point of the domains does
abbrev pub IsLeastRepair : Case → List ℤ → Type 0
IsLeastRepair case point = Least (Mends case) case.domains.region case.plan.olds point

-- no point of the domains repairs
abbrev pub HasNoRepair : Case → Type 0
HasNoRepair case = Nothing (Mends case) case.domains.region

-- a complaint is about the row
abbrev pub is_complained : Case → RowName → Bool
is_complained case row = is_some (ask_for case.asks row)

-- the rows with a complaint and those without, each in row order
abbrev pub complained_rows : Case → List RowName
complained_rows case = filter (is_complained case) (case_rows case)

abbrev pub other_rows : Case → List RowName
other_rows case = filter (λ row. not (is_complained case row)) (case_rows case)

abbrev pub misses : Case → List ℤ → RowName → Bool
misses case point row = not (meets (outcome_at case point row) (goal_at case row))

-- the first row that misses its goal, where the rows with a complaint come first
abbrev pub first_failing : Case → List ℤ → Option RowName
first_failing case point = find (misses case point) (complained_rows case ++ other_rows case)
