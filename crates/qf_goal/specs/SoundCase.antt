-- What is known of every problem, and what is asked of complaints before one is made of them.
use Rattle.std.specs.Prelude.{◌≡◌, ℕ, ◌≤◌, List, length, map, slice_get}
use Rattle.std.specs.declared.option.Option.TheVariants.{Some}
use Rattle.std.specs.List.{IsDistinct, AllByRecursion}
use Rattle.qf_base.specs.Values.{In}
use Rattle.qf_base.specs.declared.names.RowName.{RowName}
use Rattle.qf_ir.specs.declared.cell.Ask.{Ask}
use Rattle.qf_ir.specs.declared.cell.Ask.TheVariants as ask
use Rattle.qf_ir.specs.declared.cell.Cell.{Cell}
use Rattle.qf_ir.specs.declared.table.Column.{Column}
use Rattle.qf_ir.specs.Plan.{Plan, IsSound, Belongs, Fits, RowExists}
use Rattle.qf_ir.specs.Replay.{same_row}
use Rattle.qf_ir.specs.Tables.{CellIs, IsSoundTable}
use Rattle.qf_goal.specs.Case.{Case}

-- ---- problems

-- a column of the program, and a cell of its kind
pub record IsListed (plan : Plan) (listed : ℕ × Cell) : Type 0 where
  pub column : Column
  pub there : slice_get plan.columns listed.0 ≡ Some column
  pub cell : CellIs column.kind (length plan.texts) listed.1

abbrev pub IsAskOf : Plan → Ask → Type 0
IsAskOf plan ask.Absent = Unit {0}
IsAskOf plan (ask.Present listed) = AllByRecursion (IsListed plan) listed

-- each row exists and is asked once, and what is asked are cells of the program's columns
pub record AreAsksOf (plan : Plan) (asks : List (RowName × Ask)) : Type 0 where
  pub few : length asks ≤ 1000
  pub exist : AllByRecursion (λ (a : RowName × Ask). RowExists plan a.0) asks
  pub once : IsDistinct same_row (map (λ (a : RowName × Ask). a.0) asks)
  pub cells : AllByRecursion (λ (a : RowName × Ask). IsAskOf plan a.1) asks

-- program, table, asks and domains belong together and are within the limits
pub record IsSoundCase (case : Case) : Type 0 where
  pub plan : IsSound case.plan
  pub table : IsSoundTable case.table
  pub belongs : Belongs case.plan case.table
  pub fits : Fits case.plan case.table case.domains.region
  pub olds : case.domains.olds ≡ case.plan.olds
  pub inside : In case.domains.region case.plan.olds
  pub asks : AreAsksOf case.plan case.asks
