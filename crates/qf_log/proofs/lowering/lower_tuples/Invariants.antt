use Rattle.std.proofs.Common.{◌≡◌, ◌∷◌, map, take}
use Rattle.qf_log.specs.Lowered.{lowered_several, lowered_item}
use Rattle.qf_log.proofs.lowering.lower_tuples.Given as goal

abbrev pub invariant-loop-tuple : goal.invariant-loop-tuple
invariant-loop-tuple l = l.lowered ≡ lowered_several (lowered_item l.ids) l.tuples.first ∷ map (lowered_several (lowered_item l.ids)) (take l.tuple-index l.tuples.others)
