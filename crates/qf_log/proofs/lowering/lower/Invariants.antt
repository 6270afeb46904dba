use Rattle.std.proofs.Common.{◌≡◌, map, take}
use Rattle.qf_log.specs.Lowered.{lowered_form}
use Rattle.qf_log.proofs.lowering.lower.Given as goal

abbrev pub invariant-loop-one : goal.invariant-loop-one
invariant-loop-one l = l.lowered ≡ map (λ one. lowered_form l.values l.ids one.form) (take l.one-index l.stated)
