use Rattle.std.proofs.Common.{◌≡◌, ◌∷◌, map, take}
use Rattle.qf_log.specs.Lowered.{lowered_assign}
use Rattle.qf_log.proofs.lowering.lower_sets.Given as goal

abbrev pub invariant-loop-set : goal.invariant-loop-set
invariant-loop-set l = l.lowered ≡ lowered_assign l.values l.ids l.sets.first ∷ map (lowered_assign l.values l.ids) (take l.set-index l.sets.others)
