use Rattle.std.proofs.Common.{◌≡◌, ◌++◌, ◌+◌, ◌≤◌, length, drop}
use Rattle.std.specs.List.{flat_map}
use Rattle.qf_log.specs.Parameters.{ids_from, ids_of}
use Rattle.qf_log.proofs.places.ids_of.Given as goal

abbrev pub invariant-loop-one : goal.invariant-loop-one
invariant-loop-one l = record {
  ids : l.ids ++ ids_from l.count (flat_map (λ s. s.uses) (drop l.one-index l.stated)) ≡ ids_of l.stated;
  few : l.count + length (flat_map (λ s. s.uses) (drop l.one-index l.stated)) ≤ length (flat_map (λ s. s.uses) l.stated);
}
