use Rattle.std.proofs.Common.{◌≡◌, ◌∷◌, map, take}
use Rattle.qf_log.specs.Lowered.{lowered_item}
use Rattle.qf_log.proofs.lowering.lower_items.Given as goal

abbrev pub invariant-loop-item : goal.invariant-loop-item
invariant-loop-item l = l.lowered ≡ lowered_item l.ids l.items.first ∷ map (lowered_item l.ids) (take l.item-index l.items.others)
