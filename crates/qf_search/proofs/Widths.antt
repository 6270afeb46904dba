-- The widest interval so far.
use Rattle.std.proofs.Common.{◌≡◌, sym, subst, refl, arith, inl, inr, ℕ, ◌+◌, ◌-◌, ◌<◌, ◌≤◌, ℤ, pos, ◌-ℤ◌, ◌≤ℤ◌, ◌<ℤ◌, unsigned_abs, length, slice_get, IfSome, IfNone}
use Rattle.std.specs.declared.option.Option.{Option}
use Rattle.std.specs.declared.option.Option.TheVariants.{Some, None}
use Rattle.std.proofs.lemmas.Int.{ints}
use Rattle.std.proofs.lemmas.Bool.{cases_eq}
use Rattle.qf_base.specs.Values.{Interval, Bounds, interval_at}
use Rattle.qf_point.specs.Points.{HasNoEmpty, CanCut}
use Rattle.qf_slice.proofs.Boxes.{at-get, get-within}
use Rattle.qf_search.specs.Deciding.{IsOnePoint}
use Rattle.qf_search.proofs.GoalSizes.{all_from}

pub record IsWidest (region : Bounds) (place most whole : ℕ) (widest : Option ℕ) : Type 0 where
  pub within : IfSome widest (λ p. p < length region)
  pub wide : IfSome widest (λ p. (interval_at region p).0 <ℤ (interval_at region p).1)
  pub none : IfNone widest ((most ≡ 0) × (whole ≡ 1) × ((k : ℕ) → k < place → (interval_at region k).0 ≡ (interval_at region k).1))

pub widest_none : (region : Bounds) → IsWidest region 0 0 1 None
widest_none region = record { within = tt; wide = tt; none = (refl, refl, λ k below. absurd (omega (arith, below))) }

pub widest_here : (region : Bounds) (place own whole : ℕ) (r : Interval) → HasNoEmpty region → slice_get region place ≡ Some r → own ≡ unsigned_abs (r.1 -ℤ r.0) → 0 < own → IsWidest region (place + 1) own whole (Some place)
widest_here region place own whole r spans got is wide =
    let inside = get-within region place r got in
    let here = at-get region place r (pos 0, pos 0) got in
    let order = spans place (pos 0, pos 0) inside in
    record {
      within = inside;
      wide = subst (λ (i : Interval). i.0 <ℤ i.1) (sym here) (let span : r.0 ≤ℤ r.1 = subst (λ (i : Interval). i.0 ≤ℤ i.1) here order in omega (arith, ints, is, wide, span));
      none = tt;
    }

pub widest_still : (region : Bounds) (place own most whole : ℕ) (r : Interval) (widest : Option ℕ) → slice_get region place ≡ Some r → own ≡ unsigned_abs (r.1 -ℤ r.0) → (most ≡ 0 → whole ≡ 1 → own ≡ 0) → IsWidest region place most whole widest → IsWidest region (place + 1) most whole widest
widest_still region place own most whole r (Some p) got is none h = record { within = h.within; wide = h.wide; none = tt }
widest_still region place own most whole r None got is none h =
    let here = at-get region place r (pos 0, pos 0) got in
    let alone : r.0 ≡ r.1 = let zero_wide = none h.none.0 h.none.1 in omega (arith, ints, is, zero_wide) in
    record {
      within = tt;
      wide = tt;
      none = (
        h.none.0,
        h.none.1,
        λ k below.
            elim (cases_eq k place) [
              | inl same ↦ subst (λ (n : ℕ). (interval_at region n).0 ≡ (interval_at region n).1) (sym same) (subst (λ (i : Interval). i.0 ≡ i.1) (sym here) alone)
              | inr apart ↦ h.none.2 k (omega (arith, below))
            ],
      );
    }

pub one_value : (region : Bounds) (place most whole : ℕ) (widest : Option ℕ) → length region ≤ place → IsWidest region place most whole widest → IfNone widest (IsOnePoint region)
one_value region place most whole (Some p) all h = tt
one_value region place most whole None all h = all_from (λ (r : Interval). r.0 ≡ r.1) region (pos 0, pos 0) (λ k inside. h.none.2 k (omega (arith, inside, all)))

-- a cut of an interval that was read
pub cut_there : (region : Bounds) (place : ℕ) (cut : ℤ) (r : Interval) → place < length region → slice_get region place ≡ Some r → r.0 ≤ℤ cut → cut <ℤ r.1 → CanCut region (place + 1 - 1) cut
cut_there region place cut r inside got low high =
    let here = at-get region place r (pos 0, pos 0) got in
    let back : place + 1 - 1 ≡ place = omega arith in
    subst (λ (n : ℕ). CanCut region n cut) (sym back) (record {
      within = inside;
      low = subst (λ (i : Interval). i.0 ≤ℤ cut) (sym here) low;
      high = subst (λ (i : Interval). cut <ℤ i.1) (sym here) high;
    })

pub wide_there : (region : Bounds) (place : ℕ) (r : Interval) → slice_get region place ≡ Some r → (interval_at region place).0 <ℤ (interval_at region place).1 → r.0 <ℤ r.1
wide_there region place r got wide = subst (λ (i : Interval). i.0 <ℤ i.1) (at-get region place r (pos 0, pos 0) got) wide
