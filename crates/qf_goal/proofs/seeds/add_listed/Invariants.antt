use Rattle.std.proofs.Common.{◌≡◌, ◌||◌, ◌<◌, ℕ, drop}
use Rattle.std.specs.List.{list_any, AllByRecursion}
use Rattle.qf_ir.specs.ColumnSets.{has}
use Rattle.qf_ir.specs.Flow.{Place, same_place}
use Rattle.qf_ir.specs.declared.cell.Cell.{Cell}
use Rattle.qf_goal.specs.SeedPlaces.{listed_places}
use Rattle.qf_goal.proofs.seeds.add_listed.Given as goal

abbrev pub invariant-loop-cell : goal.invariant-loop-cell
invariant-loop-cell l =
    AllByRecursion (λ (x : ℕ × Cell). x.0 < 32) (drop l.cell-index l.listed)
    × ((place : Place) → (has l.seeds place || list_any (same_place place) (listed_places (drop l.cell-index l.listed)))
    ≡ (has l.initial.seeds place || list_any (same_place place) (listed_places l.listed)))
