use Rattle.std.proofs.Common.{◌≡◌, ℕ, ◌+◌, ◌<◌, ◌||◌, length, drop}
use Rattle.std.specs.List.{list_any, AllByRecursion}
use Rattle.qf_ir.specs.ColumnSets.{has}
use Rattle.qf_ir.specs.Flow.{Place}
use Rattle.qf_impact.specs.Steps.{carries}
use Rattle.qf_impact.specs.Sets.{set_at}
use Rattle.qf_impact.proofs.steps.spread_sets.Given as goal

abbrev pub invariant-loop-assignment : goal.invariant-loop-assignment
invariant-loop-assignment l = record {
  len : length l.sets ≡ length l.fn.sets;
  within : AllByRecursion (λ s. s.0 < 32) (drop l.assignment-index l.assignments);
  left : (i : ℕ) → i < length l.fn.sets → (place : Place)
      → (has (set_at l.sets i) place || list_any (carries (l.first + i) (has (set_at l.before i)) l.filter place) (drop l.assignment-index l.assignments))
      ≡ (has (set_at l.fn.sets i) place || list_any (carries (l.first + i) (has (set_at l.before i)) l.filter place) l.assignments);
}
