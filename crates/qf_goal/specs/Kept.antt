-- What is kept beside a problem.
use Rattle.std.specs.Prelude.{◌≡◌, ℕ, ℤ, Bool, not, ◌&&◌, List, map, is_some}
use Rattle.std.specs.declared.option.Option.{Option}
use Rattle.std.specs.List.{list_any, filter, flat_map}
use Rattle.qf_base.specs.declared.names.RowName.{RowName}
use Rattle.qf_ir.specs.declared.cell.Ask.{Ask}
use Rattle.qf_ir.specs.declared.table.Table.{Table}
use Rattle.qf_ir.specs.ColumnSets.{has}
use Rattle.qf_ir.specs.Flow.{Place, same_place}
use Rattle.qf_ir.specs.Goals.{ask_for}
use Rattle.qf_ir.specs.Plan.{Plan}
use Rattle.qf_replay.specs.BirthPlaces.{births_of}
use Rattle.qf_goal.specs.declared.aims.Aims.{Aims}
use Rattle.qf_goal.specs.Case.{Case, goal_in, is_complained, misses}
use Rattle.qf_goal.specs.SeedPlaces.{seeds_in}
use Rattle.qf_goal.specs.SoundCase.{IsSoundCase}
use Rattle.qf_goal.specs.RowPlaces.{plan_rows, marks_of, asked_rows}

-- the goals of these rows, those of them with a complaint, and their seeds
pub record AreAimsOf (plan : Plan) (table : Table) (asks : List (RowName × Ask)) (rows : List RowName) (aims : Aims) : Type 0 where
  pub goals : aims.goals ≡ map (goal_in plan table asks) rows
  pub complained : aims.complained ≡ filter (λ row. is_some (ask_for asks row)) rows
  pub seeds : (place : Place) → has aims.seeds place ≡ list_any (same_place place) (flat_map (seeds_in plan table asks) rows)

-- no complaint is about the row, and it misses its goal
abbrev pub misses_unasked : Case → List ℤ → RowName → Bool
misses_unasked case point row = not (is_complained case row) && misses case point row

-- a sound problem, with the places where rows are born, the mark of each row, and what is known of all rows
pub record IsKept (case : Case) (places : List (ℕ × ℕ)) (row_marks : List (Option ℕ)) (row_aims : Aims) : Type 0 where
  pub sound : IsSoundCase case
  pub births : places ≡ births_of case.plan.statements
  pub marks : row_marks ≡ marks_of case.plan (asked_rows case.asks)
  pub aims : AreAimsOf case.plan case.table case.asks (plan_rows case.plan) row_aims
