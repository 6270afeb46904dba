use Rattle.std.proofs.Common.{◌≡◌, ℕ, ◌+◌, ◌<◌, ◌&&◌, ◌||◌, length, drop}
use Rattle.std.specs.List.{list_any}
use Rattle.qf_ir.specs.ColumnSets.{has}
use Rattle.qf_ir.specs.Flow.{Place}
use Rattle.qf_impact.specs.Steps.{is_param}
use Rattle.qf_impact.specs.Sets.{set_at}
use Rattle.qf_impact.proofs.sets.enter.Given as goal

abbrev pub invariant-loop-atom : goal.invariant-loop-atom
invariant-loop-atom l = record {
  len : length l.sets ≡ length l.fn.sets;
  left : (i : ℕ) → i < length l.fn.sets → (place : Place)
      → (has (set_at l.sets i) place || (has l.target place && list_any (is_param (l.first + i)) (drop l.atom-index l.atoms)))
      ≡ (has (set_at l.fn.sets i) place || (has l.target place && list_any (is_param (l.first + i)) l.atoms));
}
