-- The numbers that come up as the inequalities of a circuit are used.
use Rattle.std.proofs.Common.{◌≡◌, ℕ, suc, zero, ◌+◌, ◌-◌, ◌*◌, ◌<◌, ◌≤◌, ◌^◌, Bool, true, false, cond, not, ◌==◌, List, [], ◌∷◌, ◌++◌, length, fold, filter, map, get_or, ℤ, pos, negsuc, ◌+ℤ◌, ◌-ℤ◌, ◌*ℤ◌, neg_ℤ, unsigned_abs, int_le, All as AllOf, IsTrue, sum_by, arith, refl, eqb-true, inl, inr}
use Rattle.std.specs.List.{AllByRecursion, list_all, list_any}
use Rattle.std.specs.Ordering.{int_eq}
use Rattle.std.specs.Int.{int_min}
use Rattle.std.proofs.lemmas.Int.{ints, clamps}
use Rattle.std.proofs.lemmas.Bool.{cases_lt, or_cases}
use Rattle.std.proofs.lemmas.List.{get_or_past}
use Rattle.std.proofs.lemmas.List.Elements.{All-from_recursion}
use Rattle.std.proofs.lemmas.List.Sums.{sum_by-cons, sum_by-append}
use Rattle.qf_base.specs.Values.{Bounds, Term, interval_of_var}
use Rattle.qf_base.proofs.Integers.{product_of_sum, product_neg_left, int_eq_true}
use Rattle.qf_lin.specs.declared.inequality.Inequality.{Inequality}
use Rattle.qf_lin.specs.Inequalities.{IsSmall, AreSmall, largest_size}
use Rattle.qf_circuit.specs.declared.circuit.Def.{Def}
use Rattle.qf_circuit.specs.declared.circuit.Def.TheVariants.{Param, Const, Linear, AtLeastZero, All, Any, Not, Choose}
use Rattle.qf_circuit.specs.Circuits.{truth, is_set, hull_of, hull_of_def, makes_truth, truth_parts, def_of, NamesEarlier, TruthsMatch, def_size, circuit_size}
use Rattle.qf_circuit.proofs.Built.{hull_keeps}
use Rattle.qf_circuit.proofs.Steps.{parts_named}
use Rattle.qf_rows.specs.Encoding.{with_term, merged, inequality, plus, minus, negated, below_rows, above_rows, rows_of_def, rows_from, rows_of}
use Rattle.qf_rows.proofs.Forms.{def_size_le}
use Rattle.qf_rows.specs.Sums.{has_factor}
use Rattle.qf_rows.specs.Systems.{IsModestSum, EndsWithin56, IsModest}

-- ---- added up, a sum takes no larger numbers

size_of_sum : (f g e : ℤ) → unsigned_abs ((f +ℤ g) *ℤ e) ≤ unsigned_abs (f *ℤ e) + unsigned_abs (g *ℤ e)
size_of_sum f g e = omega (arith, ints, product_of_sum f g e)

largest_of_sum : (bounds : Bounds) (f g : ℤ) (x : ℕ) → largest_size bounds (f +ℤ g, x) ≤ largest_size bounds (f, x) + largest_size bounds (g, x)
largest_of_sum bounds f g x =
    let i = interval_of_var bounds x in
    omega (arith, size_of_sum f g i.0, size_of_sum f g i.1)

with_by : (flag : Bool) (bounds : Bounds) (u t : Term) (us : List Term) → (u.1 == t.1) ≡ flag → sum_by (largest_size bounds) (with_term us t) ≤ sum_by (largest_size bounds) us + largest_size bounds t → sum_by (largest_size bounds) (cond flag ((u.0 +ℤ t.0, u.1) ∷ us) (u ∷ with_term us t)) ≤ sum_by (largest_size bounds) (u ∷ us) + largest_size bounds t
with_by true bounds u t us e h =
    let same = eqb-true u.1 t.1 e in
    let sizes = largest_of_sum bounds u.0 t.0 t.1 in
    rw same (omega (arith, sizes, sum_by-cons (largest_size bounds) (u.0, t.1) us, sum_by-cons (largest_size bounds) (u.0 +ℤ t.0, t.1) us))
with_by false bounds u t us e h = omega (arith, h, sum_by-cons (largest_size bounds) u us, sum_by-cons (largest_size bounds) u (with_term us t))

with_term-sizes : (bounds : Bounds) (us : List Term) (t : Term) → sum_by (largest_size bounds) (with_term us t) ≤ sum_by (largest_size bounds) us + largest_size bounds t
with_term-sizes bounds [] t = omega (arith, sum_by-cons (largest_size bounds) t [])
with_term-sizes bounds (u ∷ us) t = with_by (u.1 == t.1) bounds u t us refl (with_term-sizes bounds us t)

fold-sizes : (bounds : Bounds) (done ts : List Term) → sum_by (largest_size bounds) (fold with_term done ts) ≤ sum_by (largest_size bounds) done + sum_by (largest_size bounds) ts
fold-sizes bounds done [] = omega arith
fold-sizes bounds done (t ∷ ts) = omega (arith, fold-sizes bounds (with_term done t) ts, with_term-sizes bounds done t, sum_by-cons (largest_size bounds) t ts)

kept_by : (flag : Bool) (bounds : Bounds) (t : Term) (ts : List Term) → sum_by (largest_size bounds) (filter has_factor ts) ≤ sum_by (largest_size bounds) ts → sum_by (largest_size bounds) (cond flag (t ∷ filter has_factor ts) (filter has_factor ts)) ≤ sum_by (largest_size bounds) (t ∷ ts)
kept_by true bounds t ts h = omega (arith, h, sum_by-cons (largest_size bounds) t ts, sum_by-cons (largest_size bounds) t (filter has_factor ts))
kept_by false bounds t ts h = omega (arith, h, sum_by-cons (largest_size bounds) t ts)

kept-sizes : (bounds : Bounds) (ts : List Term) → sum_by (largest_size bounds) (filter has_factor ts) ≤ sum_by (largest_size bounds) ts
kept-sizes bounds [] = omega arith
kept-sizes bounds (t ∷ ts) = kept_by (has_factor t) bounds t ts (kept-sizes bounds ts)

pub merged-sizes : (bounds : Bounds) (terms : List Term) → sum_by (largest_size bounds) (merged terms) ≤ sum_by (largest_size bounds) terms
merged-sizes bounds terms = omega (arith, kept-sizes bounds (fold with_term [] terms), fold-sizes bounds [] terms)

pub small_row : (bounds : Bounds) (terms : List Term) (least : ℤ) → unsigned_abs least ≤ 2 ^ 58 → sum_by (largest_size bounds) terms ≤ 2 ^ 58 → IsSmall (inequality terms least) bounds
small_row bounds terms least p q = record { least = p; terms = omega (arith, q, merged-sizes bounds terms) }

-- ---- one term

pub with_one : (e : ℤ) → (unsigned_abs (pos 1 *ℤ e) ≡ unsigned_abs e) × (unsigned_abs (negsuc 0 *ℤ e) ≡ unsigned_abs e)
with_one e = (omega (arith, ints), omega (arith, ints))

times_bit : (f e : ℤ) → unsigned_abs e ≤ 1 → unsigned_abs (f *ℤ e) ≤ unsigned_abs f
times_bit f (pos zero) h = omega (arith, ints)
times_bit f (pos (suc zero)) h = omega (arith, ints)
times_bit f (pos (suc (suc n))) h = absurd (omega (arith, ints, h))
times_bit f (negsuc zero) h = omega (arith, ints)
times_bit f (negsuc (suc n)) h = absurd (omega (arith, ints, h))

-- ---- the inequalities of a definition

abbrev pub AllSmall : List Inequality → Bounds → Type 0
AllSmall rows bounds = AllByRecursion (λ row. IsSmall row bounds) rows

small_append : (rows more : List Inequality) (bounds : Bounds) → AllSmall rows bounds → AllSmall more bounds → AllSmall (rows ++ more) bounds
small_append [] more bounds h k = k
small_append (row ∷ rows) more bounds h k = (h.0, small_append rows more bounds h.1 k)

abbrev IsBit : Bounds → ℕ → Type 0
IsBit bounds x = (unsigned_abs (interval_of_var bounds x).0 ≤ 1) × (unsigned_abs (interval_of_var bounds x).1 ≤ 1)

pub plus-size : (m : ℕ) (bounds : Bounds) (x : ℕ) → unsigned_abs (interval_of_var bounds x).0 ≤ m → unsigned_abs (interval_of_var bounds x).1 ≤ m → (largest_size bounds (plus x) ≤ m) × (largest_size bounds (minus x) ≤ m)
plus-size m bounds x p q =
    let low = with_one (interval_of_var bounds x).0 in
    let high = with_one (interval_of_var bounds x).1 in
    (omega (arith, p, q, low.0, high.0), omega (arith, p, q, low.1, high.1))

bit-size : (bounds : Bounds) (f : ℤ) (x : ℕ) → IsBit bounds x → largest_size bounds (f, x) ≤ unsigned_abs f
bit-size bounds f x h = omega (arith, times_bit f (interval_of_var bounds x).0 h.0, times_bit f (interval_of_var bounds x).1 h.1)

opposite-size : (bounds : Bounds) (t : Term) → largest_size bounds (negated t) ≡ largest_size bounds t
opposite-size bounds t =
    let i = interval_of_var bounds t.1 in
    omega (arith, ints, product_neg_left t.0 i.0, product_neg_left t.0 i.1)

pub opposite-sizes : (bounds : Bounds) (ts : List Term) → sum_by (largest_size bounds) (map negated ts) ≡ sum_by (largest_size bounds) ts
opposite-sizes bounds [] = refl
opposite-sizes bounds (t ∷ ts) = omega (arith, opposite-sizes bounds ts, opposite-size bounds t, sum_by-cons (largest_size bounds) t ts, sum_by-cons (largest_size bounds) (negated t) (map negated ts))

bits-sizes : (bounds : Bounds) (f : ℤ) (xs : List ℕ) → AllByRecursion (IsBit bounds) xs → sum_by (largest_size bounds) (map (λ x. (f, x)) xs) ≤ unsigned_abs f * length xs
bits-sizes bounds f [] h = omega arith
bits-sizes bounds f (x ∷ xs) h = omega (arith, bits-sizes bounds f xs h.1, bit-size bounds f x h.0, sum_by-cons (largest_size bounds) (f, x) (map (λ y. (f, y)) xs))

two-sizes : (bounds : Bounds) (t u : Term) → sum_by (largest_size bounds) (t ∷ u ∷ []) ≡ largest_size bounds t + largest_size bounds u
two-sizes bounds t u = omega arith

three-sizes : (bounds : Bounds) (t u w : Term) → sum_by (largest_size bounds) (t ∷ u ∷ w ∷ []) ≡ largest_size bounds t + largest_size bounds u + largest_size bounds w
three-sizes bounds t u w = omega arith

small_below : (bounds : Bounds) (s : ℕ) (xs : List ℕ) → IsBit bounds s → AllByRecursion (IsBit bounds) xs → AllSmall (below_rows xs s) bounds
small_below bounds s [] o h = tt
small_below bounds s (x ∷ xs) o h =
    (small_row bounds (plus x ∷ minus s ∷ []) (pos 0) (omega (arith, ints)) (omega (arith, two-sizes bounds (plus x) (minus s), bit-size bounds (pos 1) x h.0, bit-size bounds (negsuc 0) s o)), small_below bounds s xs o h.1)

small_above : (bounds : Bounds) (s : ℕ) (xs : List ℕ) → IsBit bounds s → AllByRecursion (IsBit bounds) xs → AllSmall (above_rows xs s) bounds
small_above bounds s [] o h = tt
small_above bounds s (x ∷ xs) o h =
    (small_row bounds (plus s ∷ minus x ∷ []) (pos 0) (omega (arith, ints)) (omega (arith, two-sizes bounds (plus s) (minus x), bit-size bounds (pos 1) s o, bit-size bounds (negsuc 0) x h.0)), small_above bounds s xs o h.1)

min_size : (a b : ℤ) → unsigned_abs a ≤ 2 ^ 56 → unsigned_abs b ≤ 2 ^ 56 → (unsigned_abs (int_min (pos 0) (a -ℤ b)) ≤ 2 ^ 57) × (unsigned_abs (neg_ℤ (int_min (pos 0) (a -ℤ b))) ≤ 2 ^ 57)
min_size a b p q = (omega (arith, ints, clamps), omega (arith, ints, clamps))

module _ (hull bounds : Bounds) (wide : (u : ℕ) → EndsWithin56 (interval_of_var hull u)) (narrow : (u : ℕ) → EndsWithin56 (interval_of_var bounds u)) where
  one_size : (u : ℕ) → (largest_size bounds (plus u) ≤ 2 ^ 56) × (largest_size bounds (minus u) ≤ 2 ^ 56)
  one_size u = plus-size (2 ^ 56) bounds u (narrow u).0 (narrow u).1

  choice_row : (u w x : ℕ) (m least : ℤ) → unsigned_abs m ≤ 2 ^ 57 → unsigned_abs least ≤ 2 ^ 57 → IsBit bounds x → IsSmall (inequality (plus u ∷ minus w ∷ (m, x) ∷ []) least) bounds
  choice_row u w x m least p q bit =
      small_row bounds (plus u ∷ minus w ∷ (m, x) ∷ []) least (omega (arith, q)) (omega (arith, three-sizes bounds (plus u) (minus w) (m, x), (one_size u).0, (one_size w).1, bit-size bounds m x bit, p))

  small_of_def : (v : ℕ) (def : Def) → IsModestSum bounds def → def_size def < 2 ^ 29 → (makes_truth def ≡ true → IsBit bounds v) → AllByRecursion (IsBit bounds) (truth_parts def) → AllSmall (rows_of_def hull v def) bounds
  small_of_def v (Param k) s few own parts = tt
  small_of_def v (Const n) s few own parts = tt
  small_of_def v (Linear terms n) s few own parts = (
    small_row bounds (terms ++ minus v ∷ []) (neg_ℤ n) (omega (arith, ints, s.1)) (omega (arith, s.0, sum_by-append (largest_size bounds) terms (minus v ∷ []), sum_by-cons (largest_size bounds) (minus v) [], (one_size v).1)),
    (
      small_row bounds (map negated terms ++ plus v ∷ []) n (omega (arith, s.1)) (omega (arith, s.0, opposite-sizes bounds terms, sum_by-append (largest_size bounds) (map negated terms) (plus v ∷ []), sum_by-cons (largest_size bounds) (plus v) [], (one_size v).0)),
      tt,
    ),
  )
  small_of_def v (AtLeastZero u) s few own parts =
      let i = interval_of_var hull u in
      let bit = own refl in (
        small_row bounds (plus u ∷ (i.0, v) ∷ []) i.0 (omega (arith, (wide u).0)) (omega (arith, two-sizes bounds (plus u) (i.0, v), (one_size u).0, bit-size bounds i.0 v bit, (wide u).0)),
        (
          small_row bounds (minus u ∷ (i.1 +ℤ pos 1, v) ∷ []) (pos 1) (omega (arith, ints)) (omega (arith, ints, two-sizes bounds (minus u) (i.1 +ℤ pos 1, v), (one_size u).1, bit-size bounds (i.1 +ℤ pos 1) v bit, (wide u).1)),
          tt,
        ),
      )
  small_of_def v (All xs) s few own parts =
      let bit = own refl in
      small_append (below_rows xs v) (inequality (plus v ∷ map minus xs) (pos 1 -ℤ pos (length xs)) ∷ []) bounds (small_below bounds v xs bit parts) (small_row bounds (plus v ∷ map minus xs) (pos 1 -ℤ pos (length xs)) (omega (arith, ints, few)) (omega (arith, ints, few, sum_by-cons (largest_size bounds) (plus v) (map minus xs), bit-size bounds (pos 1) v bit, bits-sizes bounds (negsuc 0) xs parts)), tt)
  small_of_def v (Any xs) s few own parts =
      let bit = own refl in
      small_append (above_rows xs v) (inequality (map plus xs ++ minus v ∷ []) (pos 0) ∷ []) bounds (small_above bounds v xs bit parts) (small_row bounds (map plus xs ++ minus v ∷ []) (pos 0) (omega (arith, ints)) (omega (arith, ints, few, sum_by-append (largest_size bounds) (map plus xs) (minus v ∷ []), sum_by-cons (largest_size bounds) (minus v) [], bit-size bounds (negsuc 0) v bit, bits-sizes bounds (pos 1) xs parts)), tt)
  small_of_def v (Not x) s few own parts =
      let bit = own refl in (
        small_row bounds (plus v ∷ plus x ∷ []) (pos 1) (omega (arith, ints)) (omega (arith, ints, two-sizes bounds (plus v) (plus x), bit-size bounds (pos 1) v bit, bit-size bounds (pos 1) x parts.0)),
        (
          small_row bounds (minus v ∷ minus x ∷ []) (neg_ℤ (pos 1)) (omega (arith, ints)) (omega (arith, ints, two-sizes bounds (minus v) (minus x), bit-size bounds (negsuc 0) v bit, bit-size bounds (negsuc 0) x parts.0)),
          tt,
        ),
      )
  small_of_def v (Choose x a b) s few own parts =
      let hv = interval_of_var hull v in
      let ha = interval_of_var hull a in
      let hb = interval_of_var hull b in
      let one = min_size hv.0 ha.1 (wide v).0 (wide a).1 in
      let two = min_size ha.0 hv.1 (wide a).0 (wide v).1 in
      let three = min_size hv.0 hb.1 (wide v).0 (wide b).1 in
      let four = min_size hb.0 hv.1 (wide b).0 (wide v).1 in
      let bit = parts.0 in (
        choice_row v a x (int_min (pos 0) (hv.0 -ℤ ha.1)) (int_min (pos 0) (hv.0 -ℤ ha.1)) one.0 one.0 bit,
        (
          choice_row a v x (int_min (pos 0) (ha.0 -ℤ hv.1)) (int_min (pos 0) (ha.0 -ℤ hv.1)) two.0 two.0 bit,
          (
            choice_row v b x (neg_ℤ (int_min (pos 0) (hv.0 -ℤ hb.1))) (pos 0) three.1 (omega (arith, ints)) bit,
            (choice_row b v x (neg_ℤ (int_min (pos 0) (hb.0 -ℤ hv.1))) (pos 0) four.1 (omega (arith, ints)) bit, tt),
          ),
        ),
      )

  small_from : (v : ℕ) (ds : List Def) → ((place : ℕ) → place < length ds → AllSmall (rows_of_def hull (v + place) (get_or ds place (Const (pos 0)))) bounds) → AllSmall (rows_from hull v ds) bounds
  small_from v [] h = tt
  small_from v (d ∷ ds) h =
      let same : v + 0 ≡ v = omega arith in
      let first = rw same at (h 0 (omega arith)) in
      small_append (rows_of_def hull v d) (rows_from hull (v + 1) ds) bounds first (small_from (v + 1) ds (λ place inside.
      let next : v + suc place ≡ (v + 1) + place = omega arith in
      rw next at (h (suc place) (omega (arith, inside)))))

-- ---- truths in a hull

truth_size : (b : Bool) → unsigned_abs (truth b) ≤ 1
truth_size true = omega (arith, ints)
truth_size false = omega (arith, ints)

pub truth_ends : (region hull : Bounds) (def : Def) → makes_truth def ≡ true → (unsigned_abs (hull_of_def region hull def).0 ≤ 1) × (unsigned_abs (hull_of_def region hull def).1 ≤ 1)
truth_ends region hull (Param k) e = cc
truth_ends region hull (Const n) e =
    elim (or_cases (int_eq n (pos 0)) (int_eq n (pos 1)) e) [
      | inl h ↦ omega (arith, ints, int_eq_true n (pos 0) h)
      | inr h ↦ omega (arith, ints, int_eq_true n (pos 1) h)
    ]
truth_ends region hull (Linear terms n) e = cc
truth_ends region hull (AtLeastZero v) e = (truth_size (int_le (pos 0) (interval_of_var hull v).0), truth_size (int_le (pos 0) (interval_of_var hull v).1))
truth_ends region hull (All xs) e = (truth_size (list_all (λ x. is_set (interval_of_var hull x).0) xs), truth_size (list_all (λ x. is_set (interval_of_var hull x).1) xs))
truth_ends region hull (Any xs) e = (truth_size (list_any (λ x. is_set (interval_of_var hull x).0) xs), truth_size (list_any (λ x. is_set (interval_of_var hull x).1) xs))
truth_ends region hull (Not x) e = (truth_size (not (is_set (interval_of_var hull x).1)), truth_size (not (is_set (interval_of_var hull x).0)))
truth_ends region hull (Choose x a b) e = cc

pub ends_of : (bounds : Bounds) → AllOf EndsWithin56 bounds → (u : ℕ) → EndsWithin56 (interval_of_var bounds u)
ends_of bounds h u =
    elim (cases_lt (u - 1) (length bounds)) [
      | inl inside ↦ h (u - 1) (pos 0, pos 0) inside
      | inr past ↦ rw (get_or_past bounds (u - 1) (pos 0, pos 0) past) (omega (arith, ints))
    ]

module _ (defs : List Def) (box : Bounds) (names : NamesEarlier defs) (truths : TruthsMatch defs) where
  bit_at : (place : ℕ) → place < length defs → makes_truth (get_or defs place (Const (pos 0))) ≡ true → (unsigned_abs (get_or (hull_of box defs) place (pos 0, pos 0)).0 ≤ 1) × (unsigned_abs (get_or (hull_of box defs) place (pos 0, pos 0)).1 ≤ 1)
  bit_at place inside e = rw (hull_keeps box defs names place inside) (truth_ends box (hull_of box defs) (get_or defs place (Const (pos 0))) e)

  bits_in : (n : ℕ) (xs : List ℕ) → n < length defs → AllByRecursion (λ v. (0 < v) × (v ≤ n)) xs → AllByRecursion (λ x. IsTrue (makes_truth (def_of defs x))) xs → AllByRecursion (IsBit (hull_of box defs)) xs
  bits_in n [] inside h t = tt
  bits_in n (x ∷ xs) inside h t = (bit_at (x - 1) (omega (arith, h.0.0, h.0.1, inside)) t.0, bits_in n xs inside h.1 t.1)

  own_bit : (place : ℕ) → place < length defs → makes_truth (get_or defs place (Const (pos 0))) ≡ true → IsBit (hull_of box defs) (1 + place)
  own_bit place inside e =
      let same : (1 + place) - 1 ≡ place = omega arith in
      rw same (bit_at place inside e)

  pub system_small : (root : Bounds) → circuit_size defs < 2 ^ 29 → IsModest root defs → IsModest box defs → AreSmall (rows_of (hull_of root defs) defs) (hull_of box defs)
  system_small root few wide narrow =
      let hull = hull_of root defs in
      let bounds = hull_of box defs in
      All-from_recursion (λ row. IsSmall row bounds) (rows_of hull defs) (small_from hull bounds (ends_of hull wide.ends) (ends_of bounds narrow.ends) 1 defs (λ place inside.
      let def = get_or defs place (Const (pos 0)) in
      small_of_def hull bounds (ends_of hull wide.ends) (ends_of bounds narrow.ends) (1 + place) def (narrow.sums place (Const (pos 0)) inside) (omega (arith, few, def_size_le defs place (Const (pos 0)) inside)) (own_bit place inside) (bits_in place (truth_parts def) inside (parts_named place def (names place inside)) (truths place inside))))
