use Rattle.std.proofs.Common.{◌≡◌, map, take}
use Rattle.qf_log.specs.Lowered.{lowered_condition}
use Rattle.qf_log.proofs.lowering.+lowering.Given as goal

abbrev pub invariant-lower_parts-loop-part : goal.invariant-lower_parts-loop-part
invariant-lower_parts-loop-part l = l.lowered ≡ map (lowered_condition l.values l.ids) (take l.part-index l.parts)
