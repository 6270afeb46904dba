use Rattle.std.proofs.Common.{◌≡◌, filter, take}
use Rattle.qf_log.specs.Parameters.{is_number}
use Rattle.qf_log.proofs.places.number_tokens.Given as goal

abbrev pub invariant-loop-token : goal.invariant-loop-token
invariant-loop-token l = l.found ≡ filter (λ t. is_number t.kind) (take l.token-index l.tokens)
