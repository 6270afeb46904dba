use Rattle.std.proofs.Common.{◌≡◌, map, take}
use Rattle.qf_log.proofs.parsing.old_constants.Given as goal

abbrev pub invariant-loop-parameter : goal.invariant-loop-parameter
invariant-loop-parameter l = l.olds ≡ map (λ p. p.old) (take l.parameter-index l.parameters)
