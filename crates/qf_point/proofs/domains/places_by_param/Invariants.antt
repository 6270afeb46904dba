use Rattle.std.proofs.Common.{◌≡◌, take}
use Rattle.qf_point.specs.Noted.{places_from}
use Rattle.qf_point.proofs.domains.places_by_param.Given as goal

abbrev pub invariant-loop-at : goal.invariant-loop-at
invariant-loop-at l = l.found.items ≡ places_from 1 l.params (take l.at l.rows)
