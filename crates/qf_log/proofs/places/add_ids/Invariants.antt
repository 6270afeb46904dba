use Rattle.std.proofs.Common.{◌≡◌, ◌++◌, ◌+◌, ◌≤◌, length, drop}
use Rattle.qf_log.specs.Parameters.{ids_from, parameters_in}
use Rattle.qf_log.proofs.places.add_ids.Given as goal

abbrev pub invariant-loop-used : goal.invariant-loop-used
invariant-loop-used l = record {
  ids : l.ids ++ ids_from l.last (drop l.used-index l.uses) ≡ l.initial.ids ++ ids_from l.count l.uses;
  count : l.last + length (parameters_in (drop l.used-index l.uses)) ≡ l.count + length (parameters_in l.uses);
  few : l.last ≤ l.count + l.used-index;
}
