use Rattle.std.proofs.Common.{◌≡◌, ℕ, ◌+◌, ◌<◌, ◌&&◌, ◌||◌, length, drop}
use Rattle.qf_ir.specs.ColumnSets.{has}
use Rattle.qf_ir.specs.Flow.{Place, At, same_place}
use Rattle.qf_impact.specs.Steps.{has_item}
use Rattle.qf_impact.specs.Sets.{set_at}
use Rattle.qf_impact.proofs.steps.enter_items.Given as goal

abbrev pub invariant-loop-tuple : goal.invariant-loop-tuple
invariant-loop-tuple l = record {
  len : length l.sets ≡ length l.fn.sets;
  left : (i : ℕ) → i < length l.fn.sets → (at : Place)
      → (has (set_at l.sets i) at || (same_place at (At l.column) && has_item (l.first + i) l.place (drop l.tuple-index l.tuples)))
      ≡ (has (set_at l.fn.sets i) at || (same_place at (At l.column) && has_item (l.first + i) l.place l.tuples));
}
