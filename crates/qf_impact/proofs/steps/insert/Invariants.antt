use Rattle.std.proofs.Common.{◌≡◌, ℕ, ◌+◌, ◌<◌, ◌&&◌, ◌||◌, length}
use Rattle.qf_ir.specs.ColumnSets.{has}
use Rattle.qf_ir.specs.Flow.{Place}
use Rattle.qf_impact.specs.Steps.{is_inserted}
use Rattle.qf_impact.specs.Sets.{set_at, is_below}
use Rattle.qf_impact.proofs.steps.insert.Given as goal

abbrev pub invariant-loop-column : goal.invariant-loop-column
invariant-loop-column l = record {
  len : length l.sets ≡ length l.fn.sets;
  so_far : (i : ℕ) → i < length l.fn.sets → (place : Place)
      → has (set_at l.sets i) place ≡ (has (set_at l.fn.sets i) place || (is_below l.column place && is_inserted (l.first + i) l.columns l.tuples place));
}
