use Rattle.std.proofs.Common.{not, ◌&&◌}
use Rattle.qf_ir.specs.ColumnSets.{has}
use Rattle.qf_impact.specs.Sets.{ChangedBelow}
use Rattle.qf_impact.proofs.sets.clear.Given as goal

abbrev pub invariant-loop-i : goal.invariant-loop-i
invariant-loop-i l = ChangedBelow (λ i reach place. reach place && not (has l.columns place)) l.fn.sets l.sets l.i
