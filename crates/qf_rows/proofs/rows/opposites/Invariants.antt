use Rattle.std.proofs.Common.{◌≡◌, ◌++◌, drop, map}
use Rattle.qf_rows.specs.Encoding.{negated}
use Rattle.qf_rows.proofs.rows.opposites.Given as goal

abbrev pub invariant-loop-term : goal.invariant-loop-term
invariant-loop-term l = l.opposite ++ map negated (drop l.term-index l.terms) ≡ map negated l.terms
