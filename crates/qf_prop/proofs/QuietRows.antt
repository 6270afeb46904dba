-- A row whose slack no variable can use up leaves the bounds as they are.
use Rattle.std.specs.Prelude.{◌≡◌, ◌≢◌, ℕ, suc, zero, ◌<◌, Bool, true, false, cond, List, [], ◌∷◌, length, fold, ℤ, pos, ◌+ℤ◌, ◌-ℤ◌, ◌*ℤ◌, neg_ℤ, ◌≤ℤ◌, int_lt, All}
use Rattle.std.proofs.Common.{arith, refl, sym, ap, ◌∙◌, get_or}
use Rattle.std.proofs.lemmas.Int.{ints}
use Rattle.std.proofs.lemmas.Bool.{ne_eqb, eq-eqb}
use Rattle.std.proofs.lemmas.List.Elements.{All-head, All-tail}
use Rattle.qf_base.specs.Values.{Interval, Bounds, Term, interval_of_var}
use Rattle.qf_base.proofs.Integers.{rounded_down_above, product_neg_left, product_neg_right, int_lt_no, int_lt_false, int_apart_above}
use Rattle.qf_lin.specs.declared.inequality.Inequality.{Inequality}
use Rattle.qf_lin.specs.Inequalities.{greatest, greatest_term, greatest_of_others, rounded_down, bound_by, tight_bound, is_better, with_bound, tightened, is_empty, IsProper}
use Rattle.qf_prop.specs.Sweeps.{least_term}
use Rattle.qf_prop.proofs.Derivations.{with_bound-no_better}
use Rattle.qf_prop.proofs.Rows.{factor_of-member, proper_tail}

-- ---- a sum is one term and the terms of other variables

greatest_of_others-absent : (terms : List Term) (bounds : Bounds) (var : ℕ) → All (λ t. t.1 ≢ var) terms → greatest_of_others terms bounds var ≡ greatest terms bounds
greatest_of_others-absent [] bounds var h = refl
greatest_of_others-absent (t ∷ ts) bounds var h =
    rw (ne_eqb t.1 var (All-head (λ t. t.1 ≢ var) t ts h), greatest_of_others-absent ts bounds var (All-tail (λ t. t.1 ≢ var) t ts h)) refl

plus_none : (z : ℤ) → z ≡ (pos 0 +ℤ z)
plus_none z = omega (arith, ints)

pub greatest-split : (terms : List Term) (bounds : Bounds) (i : ℕ) (d : Term) → IsProper terms → i < length terms → greatest terms bounds ≡ (greatest_term bounds (get_or terms i d) +ℤ greatest_of_others terms bounds (get_or terms i d).1)
greatest-split [] bounds i d h within = absurd (omega arith)
greatest-split (t ∷ ts) bounds zero d h within =
    let absent : All (λ u. u.1 ≢ t.1) ts = λ j e inside same. h.1 zero (suc j) e (omega arith) (omega arith) (sym same) in
    let others = greatest_of_others-absent ts bounds t.1 absent in
    rw (eq-eqb t.1 t.1 refl, others) (ap (λ z. greatest_term bounds t +ℤ z) (plus_none (greatest ts bounds)))
greatest-split (t ∷ ts) bounds (suc i) d h within =
    let u = get_or ts i d in
    let rest = greatest-split ts bounds i d (proper_tail t ts h) (omega arith) in
    let apart : t.1 ≢ u.1 = h.1 zero (suc i) d (omega arith) within in
    rw (ne_eqb t.1 u.1 apart) (turn (greatest_term bounds t) (greatest_term bounds u) (greatest_of_others ts bounds u.1) (greatest ts bounds) rest)
  where
    turn : (a b c d : ℤ) → d ≡ (b +ℤ c) → (a +ℤ d) ≡ (b +ℤ (a +ℤ c))
    turn a b c d h = omega (arith, ints)

-- ---- a variable whose least helpful value is enough has no better bound

not_better_by : (flag : Bool) (factor rest least : ℤ) (interval : Interval) → int_lt factor (pos 0) ≡ flag → factor ≢ pos 0 → least ≤ℤ (cond flag (factor *ℤ interval.1) (factor *ℤ interval.0) +ℤ rest) → is_better (bound_by factor rest least) interval ≡ false
not_better_by true factor rest least interval e ne h =
    let enough = rounded_down_above (rest -ℤ least) (neg_ℤ factor) interval.1 (omega (arith, ints)) (omega (arith, ints, h, product_neg_left factor interval.1)) in
    rw e (int_lt_no (rounded_down (rest -ℤ least) (neg_ℤ factor)) interval.1 enough)
not_better_by false factor rest least interval e ne h =
    let above = int_apart_above factor (int_lt_false factor (pos 0) e) ne in
    let enough = rounded_down_above (neg_ℤ (least -ℤ rest)) factor (neg_ℤ interval.0) above (omega (arith, ints, h, product_neg_right factor interval.0)) in
    rw e (int_lt_no interval.0 (neg_ℤ (rounded_down (neg_ℤ (least -ℤ rest)) factor)) (omega (arith, ints, enough)))

pub quiet_term : (row : Inequality) (bounds : Bounds) (i : ℕ) (d : Term) → IsProper row.terms → i < length row.terms → (greatest_term bounds (get_or row.terms i d) -ℤ least_term bounds (get_or row.terms i d)) ≤ℤ (greatest row.terms bounds -ℤ row.least) → is_better (tight_bound row bounds (get_or row.terms i d).1) (interval_of_var bounds (get_or row.terms i d).1) ≡ false
quiet_term row bounds i d proper within h =
    let t = get_or row.terms i d in
    let split = greatest-split row.terms bounds i d proper within in
    let same = factor_of-member row.terms i d proper within in
    let not_zero : t.0 ≢ pos 0 = proper.0 i d within in
    rw same (not_better_by (int_lt t.0 (pos 0)) t.0 (greatest_of_others row.terms bounds t.1) row.least (interval_of_var bounds t.1) refl not_zero (omega (arith, ints, h, split)))

-- ---- the whole row

pub quiet_terms : (row : Inequality) (bounds : Bounds) (terms : List Term) → is_empty bounds ≡ false → ((i : ℕ) → i < length terms → is_better (tight_bound row bounds (get_or terms i (pos 0, 0)).1) (interval_of_var bounds (get_or terms i (pos 0, 0)).1) ≡ false) → fold (tightened row) bounds terms ≡ bounds
quiet_terms row bounds [] nonempty h = refl
quiet_terms row bounds (t ∷ ts) nonempty h =
    let one : tightened row bounds t ≡ bounds =
    ap (λ (b : Bool). cond b bounds (with_bound bounds t.1 (tight_bound row bounds t.1))) nonempty ∙ with_bound-no_better bounds t.1 (tight_bound row bounds t.1) (h zero (omega arith))
    in
    ap (λ m. fold (tightened row) m ts) one ∙ quiet_terms row bounds ts nonempty (λ i within. h (suc i) (omega arith))
