use Rattle.std.proofs.Common.{◌≡◌, ◌++◌, ◌≤◌, ◌^◌, filter, unsigned_abs}
use Rattle.std.specs.List.{AllByRecursion}
use Rattle.qf_rows.specs.Sums.{terms_of, has_factor}
use Rattle.qf_rows.proofs.sums.kept_terms.Given as goal

abbrev pub invariant-loop-var : goal.invariant-loop-var
invariant-loop-var l = record {
  can_next : (goal.iterator-loop-var).can_next l.var-iterator;
  is_finite : (goal.iterator-loop-var).is_finite l.var-iterator;
  rest : l.terms ++ filter has_factor (terms_of l.var-iterator) ≡ filter has_factor (terms_of l.sums.entries);
  fits : AllByRecursion (λ t. unsigned_abs t.0 ≤ 2 ^ 60) (filter has_factor (terms_of l.var-iterator));
}
