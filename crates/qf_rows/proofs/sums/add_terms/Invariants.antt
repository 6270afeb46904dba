use Rattle.std.proofs.Common.{◌≡◌, ◌*◌, ◌≤◌, ◌^◌, [], drop, fold, unsigned_abs, All}
use Rattle.qf_rows.specs.Encoding.{with_term}
use Rattle.qf_rows.specs.Sums.{terms_of}
use Rattle.qf_rows.proofs.sums.add_terms.Given as goal

abbrev pub invariant-loop-term : goal.invariant-loop-term
invariant-loop-term l = record {
  rest : fold with_term (terms_of l.sums.entries) (drop l.term-index l.terms) ≡ fold with_term [] l.terms;
  small : All (λ t. unsigned_abs t.0 ≤ (2 ^ 60) * l.term-index) (terms_of l.sums.entries);
}
