-- A sum over intervals lies in the interval of the widths, and its numbers are small.
use Rattle.std.proofs.Common.{length, inl, inr, All as AllOf, ◌≡◌, ℕ, suc, zero, ◌+◌, ◌≤◌, ◌^◌, max, true, List, [], ◌∷◌, ◌++◌, map, ℤ, pos, negsuc, ◌+ℤ◌, ◌*ℤ◌, neg_ℤ, unsigned_abs, sum_by, arith, refl}
use Rattle.std.proofs.lemmas.Int.{ints}
use Rattle.std.proofs.lemmas.Bool.{and_parts, cases_lt}
use Rattle.std.proofs.lemmas.List.{get_or_past}
use Rattle.std.proofs.lemmas.Bool.Decides.{nat_tests}
use Rattle.std.proofs.lemmas.List.Sums.{sum_by-cons}
use Rattle.qf_base.specs.Values.{interval_at, Interval, Bounds, Term as Addend, interval_of_var, int_sum_by}
use Rattle.qf_base.proofs.Integers.{product_up, product_down, product_neg_left, int_lt_no}
use Rattle.qf_lin.specs.Inequalities.{largest_size}
use Rattle.qf_circuit.specs.Circuits.{least_product, most_product}
use Rattle.qf_circuit.specs.Limits.{least_term, most_term, SumFits as ProductsFit, IsWide62}
use Rattle.qf_rows.specs.Encoding.{negated}
use Rattle.qf_ir.specs.Width.{plus, scaled, is_small, is_narrow}
use Rattle.qf_encode.specs.Lives.{BoxIn}
use Rattle.qf_system.specs.WidthsKept.{LiesIn, HasSmallEnds}

-- ---- ends

small_of : (z : ℤ) → is_small z ≡ true → unsigned_abs z ≤ 2 ^ 50
small_of z e = grind (arith, nat_tests)

pub narrow_ends : (a : Interval) → is_narrow a ≡ true → HasSmallEnds a
narrow_ends a e = let parts = and_parts (is_small a.0) (is_small a.1) e in (small_of a.0 parts.0, small_of a.1 parts.1)

pub inner_ends : (inner outer : Interval) → LiesIn inner outer → HasSmallEnds outer → HasSmallEnds inner
inner_ends inner outer l s = (omega (arith, ints, l.0, l.1.0, l.1.1, s.0, s.1), omega (arith, ints, l.0, l.1.0, l.1.1, s.0, s.1))

-- each interval of a box is not empty, lies in its domain, and has small ends
pub record IsBoxOf (domains region : Bounds) : Type 0 where
  pub each : (place : ℕ) → LiesIn (interval_at region place) (interval_at domains place)
  pub small : (place : ℕ) → HasSmallEnds (interval_at region place)

pub box_of : (domains region : Bounds) → BoxIn region domains → AllOf HasSmallEnds region → IsBoxOf domains region
box_of domains region box small = record {
  each = λ place. elim (cases_lt place (length domains)) [
    | inl inside ↦ let h = box.each place inside in (h.0, (h.1.0, h.1.1))
    | inr past ↦ rw (get_or_past region place (pos 0, pos 0) (omega (arith, past, box.same_length)), get_or_past domains place (pos 0, pos 0) past) (omega (arith, ints), (omega (arith, ints), omega (arith, ints)))
  ];
  small = λ place. elim (cases_lt place (length region)) [
    | inl inside ↦ small place (pos 0, pos 0) inside
    | inr past ↦ rw (get_or_past region place (pos 0, pos 0) past) (omega (arith, ints), omega (arith, ints))
  ];
}

-- ---- products

abbrev pub product_of : ℤ → Interval → Interval
product_of f i = (least_product f i, most_product f i)

up_product : (n : ℕ) (i : Interval) → (least_product (pos n) i ≡ pos n *ℤ i.0) × (most_product (pos n) i ≡ pos n *ℤ i.1)
up_product n i = let e = int_lt_no (pos n) (pos 0) (omega (arith, ints)) in (rw e refl, rw e refl)

pub product_lies : (f : ℤ) (i s : Interval) → LiesIn i s → LiesIn (product_of f i) (scaled f s)
product_lies (pos n) i s l =
    let e = up_product n i in
    let low = product_up (pos n) s.0 i.0 (omega (arith, ints)) l.0 in
    let middle = product_up (pos n) i.0 i.1 (omega (arith, ints)) l.1.0 in
    let high = product_up (pos n) i.1 s.1 (omega (arith, ints)) l.1.1 in
    (rw e.0 low, (rw (e.0, e.1) middle, rw e.1 high))
product_lies (negsuc n) i s l =
    (product_down (negsuc n) i.1 s.1 (omega (arith, ints)) l.1.1, (product_down (negsuc n) i.0 i.1 (omega (arith, ints)) l.1.0, product_down (negsuc n) s.0 i.0 (omega (arith, ints)) l.0))

-- the greater of the sizes at both ends
size_at_ends : (f : ℤ) (i : Interval) → HasSmallEnds (product_of f i) → max (unsigned_abs (f *ℤ i.0)) (unsigned_abs (f *ℤ i.1)) ≤ 2 ^ 50
size_at_ends (pos n) i h =
    let e = up_product n i in
    let low = rw e.0 at h.0 in
    let high = rw e.1 at h.1 in
    omega (arith, low, high)
size_at_ends (negsuc n) i h = omega (arith, h.0, h.1)

pub product_small : (bounds : Bounds) (t : Addend) (s : Interval) → LiesIn (interval_of_var bounds t.1) s → is_narrow (scaled t.0 s) ≡ true → largest_size bounds t ≤ 2 ^ 50
product_small bounds t s l e =
    let i = interval_of_var bounds t.1 in
    size_at_ends t.0 i (inner_ends (product_of t.0 i) (scaled t.0 s) (product_lies t.0 i s l) (narrow_ends (scaled t.0 s) e))

-- ---- sums

abbrev pub sum_of : Bounds → List Addend → Interval
sum_of hull terms = (int_sum_by (least_term hull) terms, int_sum_by (most_term hull) terms)

pub plus_lies : (a b s t : Interval) → LiesIn a s → LiesIn b t → LiesIn (a.0 +ℤ b.0, a.1 +ℤ b.1) (plus s t)
plus_lies a b s t p q = (omega (arith, ints, p.0, q.0), (omega (arith, ints, p.1.0, q.1.0), omega (arith, ints, p.1.1, q.1.1)))

pub sum_of-append : (hull : Bounds) (xs ys : List Addend) → (int_sum_by (least_term hull) (xs ++ ys) ≡ int_sum_by (least_term hull) xs +ℤ int_sum_by (least_term hull) ys) × (int_sum_by (most_term hull) (xs ++ ys) ≡ int_sum_by (most_term hull) xs +ℤ int_sum_by (most_term hull) ys)
sum_of-append hull [] ys = (omega (arith, ints), omega (arith, ints))
sum_of-append hull (x ∷ xs) ys = let more = sum_of-append hull xs ys in (omega (arith, ints, more.0), omega (arith, ints, more.1))

-- the opposite of the other end
opposite_product : (f : ℤ) (i : Interval) → (least_product (neg_ℤ f) i ≡ neg_ℤ (most_product f i)) × (most_product (neg_ℤ f) i ≡ neg_ℤ (least_product f i))
opposite_product (pos zero) i = (omega (arith, ints), omega (arith, ints))
opposite_product (pos (suc n)) i =
    let e = up_product (suc n) i in
    (rw e.1 (product_neg_left (pos (suc n)) i.1), rw e.0 (product_neg_left (pos (suc n)) i.0))
opposite_product (negsuc n) i =
    let e = up_product (suc n) i in
    (rw e.0 (product_neg_left (negsuc n) i.0), rw e.1 (product_neg_left (negsuc n) i.1))

pub opposite_sum : (hull : Bounds) (terms : List Addend) → (int_sum_by (least_term hull) (map negated terms) ≡ neg_ℤ (int_sum_by (most_term hull) terms)) × (int_sum_by (most_term hull) (map negated terms) ≡ neg_ℤ (int_sum_by (least_term hull) terms))
opposite_sum hull [] = (refl, refl)
opposite_sum hull (t ∷ ts) =
    let here = opposite_product t.0 (interval_of_var hull t.1) in
    let more = opposite_sum hull ts in
    (omega (arith, ints, here.0, more.0), omega (arith, ints, here.1, more.1))

-- ---- partial sums

term_sizes : (hull : Bounds) (t : Addend) → (unsigned_abs (least_term hull t) ≤ largest_size hull t) × (unsigned_abs (most_term hull t) ≤ largest_size hull t)
term_sizes hull t = by t.0 (interval_of_var hull t.1)
  where
    by : (f : ℤ) (i : Interval) → (unsigned_abs (least_product f i) ≤ max (unsigned_abs (f *ℤ i.0)) (unsigned_abs (f *ℤ i.1))) × (unsigned_abs (most_product f i) ≤ max (unsigned_abs (f *ℤ i.0)) (unsigned_abs (f *ℤ i.1)))
    by (pos n) i = let e = up_product n i in (rw e.0 (omega arith), rw e.1 (omega arith))
    by (negsuc n) i = (omega arith, omega arith)

products_fit : (hull : Bounds) (product : Addend → ℤ) → ((t : Addend) → unsigned_abs (product t) ≤ largest_size hull t) → (before : ℤ) (terms : List Addend) → unsigned_abs before + sum_by (largest_size hull) terms ≤ 2 ^ 61 → ProductsFit product before terms × (unsigned_abs (before +ℤ int_sum_by product terms) ≤ 2 ^ 61)
products_fit hull product each before [] h = (tt, omega (arith, ints, h))
products_fit hull product each before (t ∷ ts) h =
    let whole = sum_by-cons (largest_size hull) t ts in
    let here = each t in
    let more = products_fit hull product each (before +ℤ product t) ts (omega (arith, ints, h, whole, here)) in
    ((omega (arith, h, whole, here), omega (arith, ints, h, whole, here), more.0), omega (arith, ints, more.1))

pub sums_fit : (hull : Bounds) (terms : List Addend) (n : ℤ) → sum_by (largest_size hull) terms ≤ 2 ^ 57 → unsigned_abs n ≤ 2 ^ 57 → (ProductsFit (least_term hull) (pos 0) terms × IsWide62 (int_sum_by (least_term hull) terms +ℤ n)) × (ProductsFit (most_term hull) (pos 0) terms × IsWide62 (int_sum_by (most_term hull) terms +ℤ n))
sums_fit hull terms n h k =
    let low = products_fit hull (least_term hull) (λ t. (term_sizes hull t).0) (pos 0) terms (omega (arith, ints, h)) in
    let high = products_fit hull (most_term hull) (λ t. (term_sizes hull t).1) (pos 0) terms (omega (arith, ints, h)) in
    ((low.0, omega (arith, ints, low.1, k)), (high.0, omega (arith, ints, high.1, k)))
