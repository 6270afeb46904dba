use Rattle.std.proofs.Common.{◌&&◌, ◌||◌}
use Rattle.std.specs.List.{list_any}
use Rattle.qf_ir.specs.ColumnSets.{has}
use Rattle.qf_impact.specs.Steps.{is_reached}
use Rattle.qf_impact.specs.Sets.{set_at, ChangedBelow}
use Rattle.qf_impact.proofs.sets.carry.Given as goal

abbrev pub invariant-loop-i : goal.invariant-loop-i
invariant-loop-i l = ChangedBelow (λ i reach place. reach place || (has l.target place && list_any (is_reached (has (set_at l.before i))) l.atoms)) l.fn.sets l.sets l.i
