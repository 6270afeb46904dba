use Rattle.std.proofs.Common.{◌≡◌, ◌||◌, drop}
use Rattle.std.specs.List.{list_any}
use Rattle.qf_ir.specs.ColumnSets.{has}
use Rattle.qf_ir.specs.Flow.{Place}
use Rattle.qf_impact.specs.Sets.{names}
use Rattle.qf_impact.proofs.sets.columns_in.Given as goal

abbrev pub invariant-loop-atom : goal.invariant-loop-atom
invariant-loop-atom l = (place : Place) → (has l.set place || list_any (names place) (drop l.atom-index l.atoms)) ≡ list_any (names place) l.atoms
