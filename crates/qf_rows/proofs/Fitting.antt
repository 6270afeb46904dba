-- Factors stay small where equal variables are added up.
use Rattle.std.proofs.Common.{◌≡◌, ℕ, ◌+◌, ◌<◌, ◌≤◌, ◌*◌, ◌^◌, Bool, true, false, cond, not, ◌==◌, List, [], ◌∷◌, ◌++◌, length, fold, filter, map, ℤ, pos, ◌+ℤ◌, neg_ℤ, unsigned_abs, All, sum_by, arith, refl, ◌∙◌}
use Rattle.std.specs.Ordering.{int_eq}
use Rattle.std.proofs.lemmas.Int.{ints}
use Rattle.std.proofs.lemmas.List.Elements.{All-from_recursion, recursion_from_All}
use Rattle.std.proofs.lemmas.List.Sums.{sum_by-cons, sum_by-append, fold_push}
use Rattle.qf_base.specs.Values.{Term}
use Rattle.qf_base.proofs.Integers.{int_eq_true}
use Rattle.qf_rows.specs.Encoding.{with_term, merged, negated, minus, plus}
use Rattle.qf_rows.specs.Limits.{FactorsFit}
use Rattle.qf_rows.specs.Sums.{has_factor, TermsFit}
use Rattle.qf_rows.proofs.Adding.{AreWithin, within_more, with_term_within}

abbrev pub size : Term → ℕ
size t = unsigned_abs t.0

abbrev pub sizes : List Term → ℕ
sizes terms = sum_by size terms

to_each : (m : ℕ) (terms : List Term) → AreWithin m terms → All (λ t. unsigned_abs t.0 ≤ m) terms
to_each m terms h = All-from_recursion (λ (t : Term). unsigned_abs t.0 ≤ m) terms h

from_each : (m : ℕ) (terms : List Term) → All (λ t. unsigned_abs t.0 ≤ m) terms → AreWithin m terms
from_each m terms h = recursion_from_All (λ (t : Term). unsigned_abs t.0 ≤ m) terms h

filter_by : (flag : Bool) (m : ℕ) (t : Term) (ts : List Term) → unsigned_abs t.0 ≤ m → AreWithin m (filter has_factor ts) → AreWithin m (cond flag (t ∷ filter has_factor ts) (filter has_factor ts))
filter_by true m t ts p h = (p, h)
filter_by false m t ts p h = h

filter_within : (m : ℕ) (terms : List Term) → AreWithin m terms → AreWithin m (filter has_factor terms)
filter_within m [] h = tt
filter_within m (t ∷ ts) h = filter_by (has_factor t) m t ts h.0 (filter_within m ts h.1)

unfiltered_by : (flag : Bool) (m : ℕ) (t : Term) (ts : List Term) → int_eq t.0 (pos 0) ≡ flag → (AreWithin m (filter has_factor ts) → AreWithin m ts) → AreWithin m (cond (not flag) (t ∷ filter has_factor ts) (filter has_factor ts)) → AreWithin m (t ∷ ts)
unfiltered_by true m t ts e rest h = let zero_factor = int_eq_true t.0 (pos 0) e in (rw zero_factor (omega arith), rest h)
unfiltered_by false m t ts e rest h = (h.0, rest h.1)

-- what is dropped is 0
unfiltered_within : (m : ℕ) (terms : List Term) → AreWithin m (filter has_factor terms) → AreWithin m terms
unfiltered_within m [] h = tt
unfiltered_within m (t ∷ ts) h = unfiltered_by (int_eq t.0 (pos 0)) m t ts refl (unfiltered_within m ts) h

fold_within : (m : ℕ) (done terms : List Term) → AreWithin m done → AreWithin (m + sizes terms) (fold with_term done terms)
fold_within m done [] h = within_more m (m + 0) done (omega arith) h
fold_within m done (t ∷ ts) h =
    let more = fold_within (m + size t) (with_term done t) ts (with_term_within m (size t) done t h (omega arith)) in
    within_more ((m + size t) + sizes ts) (m + sizes (t ∷ ts)) (fold with_term done (t ∷ ts)) (omega (arith, sum_by-cons size t ts)) more

each_size : (m : ℕ) (terms : List Term) → sizes terms ≤ m → AreWithin m terms
each_size m [] h = tt
each_size m (t ∷ ts) h = let whole = sum_by-cons size t ts in (omega (arith, h, whole), each_size m ts (omega (arith, h, whole)))

pub sizes_fit : (terms : List Term) → sizes terms ≤ 2 ^ 60 → TermsFit terms
sizes_fit terms h = record {
  each = to_each (2 ^ 60) terms (each_size (2 ^ 60) terms h);
  added_up = to_each (2 ^ 60) (merged terms) (within_more (0 + sizes terms) (2 ^ 60) (merged terms) (omega arith) (filter_within (0 + sizes terms) (fold with_term [] terms) (fold_within 0 [] terms tt)));
}

pub two_fit : (f g : ℤ) (x y : ℕ) → unsigned_abs f + unsigned_abs g ≤ 2 ^ 60 → TermsFit ((f, x) ∷ (g, y) ∷ [])
two_fit f g x y h = sizes_fit ((f, x) ∷ (g, y) ∷ []) (omega arith)

pub three_fit : (f g h : ℤ) (x y z : ℕ) → unsigned_abs f + unsigned_abs g + unsigned_abs h ≤ 2 ^ 60 → TermsFit ((f, x) ∷ (g, y) ∷ (h, z) ∷ [])
three_fit f g h x y z small = sizes_fit ((f, x) ∷ (g, y) ∷ (h, z) ∷ []) (omega arith)

-- ---- a sum with its own variable

pub and_own_fit : (terms : List Term) (factor : ℤ) (var : ℕ) → All (λ t. unsigned_abs t.0 ≤ 2 ^ 58) terms → All (λ t. unsigned_abs t.0 ≤ 2 ^ 58) (merged terms) → unsigned_abs factor ≤ 1 → TermsFit (terms ++ (factor, var) ∷ [])
and_own_fit terms factor var each added small = record {
  each = to_each (2 ^ 60) (terms ++ (factor, var) ∷ []) (append_within (2 ^ 60) terms factor var (within_more (2 ^ 58) (2 ^ 60) terms (omega arith) (from_each (2 ^ 58) terms each)) (omega (arith, small)));
  added_up =
      let before = unfiltered_within (2 ^ 58) (fold with_term [] terms) (from_each (2 ^ 58) (merged terms) added) in
      let after = with_term_within (2 ^ 58) 1 (fold with_term [] terms) (factor, var) before small in
      let e = fold_push with_term [] terms (factor, var) in
      to_each (2 ^ 60) (merged (terms ++ (factor, var) ∷ [])) (rw e (filter_within (2 ^ 60) (with_term (fold with_term [] terms) (factor, var)) (within_more (2 ^ 58 + 1) (2 ^ 60) (with_term (fold with_term [] terms) (factor, var)) (omega arith) after)));
}
  where
    append_within : (m : ℕ) (terms : List Term) (factor : ℤ) (var : ℕ) → AreWithin m terms → unsigned_abs factor ≤ m → AreWithin m (terms ++ (factor, var) ∷ [])
    append_within m [] factor var h p = (p, tt)
    append_within m (t ∷ ts) factor var h p = (h.0, append_within m ts factor var h.1 p)

-- ---- opposite factors

opposite_by : (flag : Bool) (u t : Term) (us : List Term) → map negated (with_term us t) ≡ with_term (map negated us) (negated t) → map negated (cond flag ((u.0 +ℤ t.0, u.1) ∷ us) (u ∷ with_term us t)) ≡ cond flag ((neg_ℤ u.0 +ℤ neg_ℤ t.0, u.1) ∷ map negated us) (negated u ∷ with_term (map negated us) (negated t))
opposite_by true u t us h = let e : neg_ℤ (u.0 +ℤ t.0) ≡ neg_ℤ u.0 +ℤ neg_ℤ t.0 = omega (arith, ints) in rw e refl
opposite_by false u t us h = rw h refl

opposite-with_term : (us : List Term) (t : Term) → map negated (with_term us t) ≡ with_term (map negated us) (negated t)
opposite-with_term [] t = refl
opposite-with_term (u ∷ us) t = opposite_by (u.1 == t.1) u t us (opposite-with_term us t)

opposite-fold : (done ts : List Term) → map negated (fold with_term done ts) ≡ fold with_term (map negated done) (map negated ts)
opposite-fold done [] = refl
opposite-fold done (t ∷ ts) = opposite-fold (with_term done t) ts ∙ rw (opposite-with_term done t) refl

opposite_within : (m : ℕ) (terms : List Term) → AreWithin m terms → AreWithin m (map negated terms)
opposite_within m [] h = tt
opposite_within m (t ∷ ts) h = (omega (arith, ints, h.0), opposite_within m ts h.1)

pub opposites_fit : (terms : List Term) (n : ℤ) → FactorsFit terms n → FactorsFit (map negated terms) n
opposites_fit terms n f = record {
  factors = to_each (2 ^ 58) (map negated terms) (opposite_within (2 ^ 58) terms (from_each (2 ^ 58) terms f.factors));
  added_up =
      let before = unfiltered_within (2 ^ 58) (fold with_term [] terms) (from_each (2 ^ 58) (merged terms) f.added_up) in
      let after = opposite_within (2 ^ 58) (fold with_term [] terms) before in
      let e = opposite-fold [] terms in
      to_each (2 ^ 58) (merged (map negated terms)) (filter_within (2 ^ 58) (fold with_term [] (map negated terms)) (rw e at after));
  constant = f.constant;
}

-- ---- a sum of truths

sizes-same : (factor : ℤ) (xs : List ℕ) → sizes (map (λ x. (factor, x)) xs) ≡ unsigned_abs factor * length xs
sizes-same factor [] = omega arith
sizes-same factor (x ∷ xs) = omega (arith, sum_by-cons size (factor, x) (map (λ y. (factor, y)) xs), sizes-same factor xs)

pub all_fit : (s : ℕ) (xs : List ℕ) → length xs < 2 ^ 29 → TermsFit (plus s ∷ map minus xs)
all_fit s xs few = sizes_fit (plus s ∷ map minus xs) (omega (arith, ints, few, sum_by-cons size (plus s) (map minus xs), sizes-same (neg_ℤ (pos 1)) xs))

pub any_fit : (s : ℕ) (xs : List ℕ) → length xs < 2 ^ 29 → TermsFit (map plus xs ++ minus s ∷ [])
any_fit s xs few = sizes_fit (map plus xs ++ minus s ∷ []) (omega (arith, ints, few, sum_by-append size (map plus xs) (minus s ∷ []), sizes-same (pos 1) xs))

-- ---- a sum of few small factors

pub factors_fit : (terms : List Term) (n : ℤ) → sizes terms ≤ 2 ^ 58 → unsigned_abs n ≤ 2 ^ 58 → FactorsFit terms n
factors_fit terms n h k = record {
  factors = to_each (2 ^ 58) terms (each_size (2 ^ 58) terms h);
  added_up = to_each (2 ^ 58) (merged terms) (within_more (0 + sizes terms) (2 ^ 58) (merged terms) (omega arith) (filter_within (0 + sizes terms) (fold with_term [] terms) (fold_within 0 [] terms tt)));
  constant = k;
}
