-- Where a repair has to change something: the seeds, from which the needed parameters are found.
use Rattle.std.specs.Prelude.{ℕ, ◌<◌, Bool, not, List, [], ◌∷◌, map}
use Rattle.std.specs.declared.option.Option.{Option}
use Rattle.std.specs.declared.option.Option.TheVariants.{Some, None}
use Rattle.std.specs.List.{filter, flat_map, AllByRecursion}
use Rattle.qf_base.specs.declared.names.RowName.{RowName}
use Rattle.qf_ir.specs.declared.cell.Ask.{Ask}
use Rattle.qf_ir.specs.declared.cell.Ask.TheVariants.{Absent, Present}
use Rattle.qf_ir.specs.declared.cell.Cell.{Cell}
use Rattle.qf_ir.specs.declared.cell.Outcome.{Outcome}
use Rattle.qf_ir.specs.declared.cell.Outcome.TheVariants.{Gone, There}
use Rattle.qf_ir.specs.Value.{Cells, cell_at}
use Rattle.qf_ir.specs.Repairs.{same_cell}
use Rattle.qf_ir.specs.Goals.{ask_for}
use Rattle.qf_ir.specs.Flow.{Place, Live, At}
use Rattle.qf_ir.specs.declared.table.Table.{Table}
use Rattle.qf_ir.specs.Plan.{Plan, final_outcome}
use Rattle.qf_goal.specs.Case.{Case, case_rows}

abbrev pub listed_places : List (ℕ × Cell) → List Place
listed_places listed = map (λ l. At l.0) listed

-- the stated cell is not the old one
abbrev pub differs : Cells → ℕ × Cell → Bool
differs cells l = not (same_cell l.1 (cell_at cells l.0))

-- What has to change of a row with an ask, by its old outcome: whether it lives, where that is not as asked; each listed
-- column where the row was gone, and else the listed columns whose stated cell is not the old one.
abbrev pub ask_seeds : Ask → Outcome → List Place
ask_seeds Absent Gone = []
ask_seeds Absent (There cells) = Live ∷ []
ask_seeds (Present listed) Gone = Live ∷ listed_places listed
ask_seeds (Present listed) (There cells) = listed_places (filter (differs cells) listed)

abbrev pub seeds_by : Option Ask → Outcome → List Place
seeds_by None old = []
seeds_by (Some ask) old = ask_seeds ask old

-- the seeds of a row
abbrev pub seeds_in : Plan → Table → List (RowName × Ask) → RowName → List Place
seeds_in plan table asks row = seeds_by (ask_for asks row) (final_outcome plan table row plan.olds)

-- the seeds of all rows
abbrev pub case_seeds : Case → List Place
case_seeds case = flat_map (seeds_in case.plan case.table case.asks) (case_rows case)

-- each listed column is below this number
abbrev pub ListsColumnsBelow : ℕ → Ask → Type 0
ListsColumnsBelow width Absent = Unit {0}
ListsColumnsBelow width (Present listed) = AllByRecursion (λ (l : ℕ × Cell). l.0 < width) listed
