use Rattle.std.proofs.Common.{◌≡◌, map, take}
use Rattle.qf_probe.proofs.tests.rows_of.Given as goal

abbrev pub invariant-loop-terms : goal.invariant-loop-terms
invariant-loop-terms l = l.rows ≡ map (λ row. record { terms = row.0.now; least = row.1 }) (take l.terms-index l.table)
