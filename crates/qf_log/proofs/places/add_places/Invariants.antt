use Rattle.std.proofs.Common.{◌≡◌, ◌++◌, drop}
use Rattle.qf_log.specs.Parameters.{places_in}
use Rattle.qf_log.proofs.places.add_places.Given as goal

abbrev pub invariant-loop-used : goal.invariant-loop-used
invariant-loop-used l = l.into ++ places_in l.tokens l.numbers l.statement (drop l.used-index l.uses) ≡ l.initial.into ++ places_in l.tokens l.numbers l.statement l.uses
