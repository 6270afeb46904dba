use Rattle.std.proofs.Common.{◌≡◌, ◌++◌, ◌+◌, drop}
use Rattle.qf_log.specs.Parameters.{places_from}
use Rattle.qf_log.proofs.places.parameters.Given as goal

abbrev pub invariant-loop-place : goal.invariant-loop-place
invariant-loop-place l = l.found ++ places_from l.tokens l.numbers (l.place + 1) (drop l.place l.stated) ≡ places_from l.tokens l.numbers 1 l.stated
