use Rattle.std.proofs.Common.{◌≡◌, ◌++◌, ◌-◌}
use Rattle.qf_replay.specs.BirthPlaces.{tuple_places}
use Rattle.qf_replay.proofs.births.add_tuples.Given as goal

abbrev pub invariant-loop-tuple : goal.invariant-loop-tuple
invariant-loop-tuple l = l.places ++ tuple_places l.statement l.tuple (l.count - l.tuple) ≡ l.fn.places ++ tuple_places l.statement 0 l.count
