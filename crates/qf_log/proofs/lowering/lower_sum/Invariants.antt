use Rattle.std.proofs.Common.{◌≡◌, ◌∷◌, map, take}
use Rattle.qf_log.specs.Lowered.{lowered_term}
use Rattle.qf_log.proofs.lowering.lower_sum.Given as goal

abbrev pub invariant-loop-term : goal.invariant-loop-term
invariant-loop-term l = l.terms ≡ lowered_term l.values l.ids l.sum.first ∷ map (lowered_term l.values l.ids) (take l.term-index l.sum.others)
