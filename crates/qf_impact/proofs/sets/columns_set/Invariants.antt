use Rattle.std.proofs.Common.{◌≡◌, ◌||◌, ◌<◌, drop}
use Rattle.std.specs.List.{list_any, AllByRecursion}
use Rattle.qf_ir.specs.ColumnSets.{has}
use Rattle.qf_ir.specs.Flow.{Place}
use Rattle.qf_impact.specs.Steps.{sets_place}
use Rattle.qf_impact.proofs.sets.columns_set.Given as goal

abbrev pub invariant-loop-assignment : goal.invariant-loop-assignment
invariant-loop-assignment l = record {
  within : AllByRecursion (λ s. s.0 < 32) (drop l.assignment-index l.sets);
  left : (place : Place) → (has l.set place || list_any (sets_place place) (drop l.assignment-index l.sets)) ≡ list_any (sets_place place) l.sets;
}
