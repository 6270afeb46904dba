-- Boxes in boxes: the root box in the domains, and the halves of a box.
use Rattle.std.proofs.Common.{◌≡◌, ◌∙◌, ap, sym, subst, refl, inl, inr, ◌⊎◌, ℕ, ◌+◌, ◌-◌, ◌<◌, ℤ, pos, ◌+ℤ◌, int_lt, int_le, length, slice_index_or, slice_set, arith, get_or-set_same, get_or-set_other, length-set}
use Rattle.std.proofs.lemmas.Int.{ints}
use Rattle.std.proofs.lemmas.Bool.{cases_eq, and_parts}
use Rattle.qf_base.specs.Values.{Interval, Bounds, interval_at, interval_of_var}
use Rattle.qf_base.proofs.BoxLaws.{IsWithin-In}
use Rattle.qf_goal.specs.Case.{Case}
use Rattle.qf_goal.specs.SoundCase.{IsSoundCase}
use Rattle.qf_slice.specs.RootBox.{IsNeeded, IsRootBox}
use Rattle.qf_slice.proofs.Stable.{same-interval}
use Rattle.qf_encode.specs.Lives.{BoxIn}
use Rattle.qf_system.specs.WidthsKept.{LiesIn}
use Rattle.qf_instance.specs.Laws.{RootBoxesSpan, BoxesHold, BoxesHalve}

-- ---- boxes in boxes

pub box_itself : (region root : Bounds) → BoxIn region root → BoxIn region region
box_itself region root box = record {
  same_length = refl;
  each = λ place inside.
      let own = box.each place (omega (arith, inside, box.same_length)) in
      (omega (arith, ints), (own.1.0, omega (arith, ints)));
}

pub box_within : (region root domains : Bounds) → BoxIn region root → BoxIn root domains → BoxIn region domains
box_within region root domains inner outer = record {
  same_length = inner.same_length ∙ outer.same_length;
  each = λ place inside.
      let near = inner.each place (omega (arith, inside, outer.same_length)) in
      let far = outer.each place inside in
      (omega (arith, ints, near.0, far.0), (near.1.0, omega (arith, ints, near.1.1, far.1.1)));
}

pub boxes_hold : BoxesHold
boxes_hold region root box q w = record {
  same_length = w.same_length ∙ box.same_length;
  each = λ place inside.
      let own = box.each place inside in
      let there = w.each place (omega (arith, inside, box.same_length)) in
      (omega (arith, ints, own.0, there.0), omega (arith, ints, own.1.1, there.1));
}

-- ---- the root box

module _ (case : Case) (root : Bounds) (sound : IsSoundCase case) (is : IsRootBox case root) where
  abbrev old_at : ℕ → ℤ
  old_at i = slice_index_or case.plan.olds i (pos 0)

  -- the domain, or the old constant alone
  root_cases : (i : ℕ) → i < length root → (interval_at root i ≡ interval_at case.domains.region i) ⊎ (interval_at root i ≡ (old_at i, old_at i))
  root_cases i within =
      let k = i + 1 in
      let same : k - 1 ≡ i = omega arith in
      elim (same-interval (interval_of_var root k) (interval_of_var case.domains.region k)) [
        | inl whole ↦ inl (ap (interval_at root) (sym same) ∙ whole ∙ ap (interval_at case.domains.region) same)
        | inr apart ↦
            let other : IsNeeded case k → ⊥ = λ n. apart (is.needed k (omega arith) (omega (arith, within)) n) in
            inr (ap (interval_at root) (sym same) ∙ is.others k (omega arith) (omega (arith, within)) other ∙ ap (λ n. (old_at n, old_at n)) same)
      ]

  pub root_in_domains : BoxIn root case.domains.region
  root_in_domains = record {
    same_length = is.len;
    each = λ i inside.
        let old = (IsWithin-In case.domains.region case.plan.olds sound.inside).each i inside in
        let low = old.0 in
        let high = old.1 in
        let outer = interval_at case.domains.region i in
        elim (root_cases i (omega (arith, inside, is.len))) [
          | inl whole ↦ subst (λ r. LiesIn r outer) (sym whole) (omega (arith, ints), (omega (arith, ints, low, high), omega (arith, ints)))
          | inr alone ↦ subst (λ r. LiesIn r outer) (sym alone) (low, (omega (arith, ints), high))
        ];
  }

pub roots_span : RootBoxesSpan
roots_span case root sound is =
    let box = root_in_domains case root sound is in
    (box, box_itself root case.domains.region box)

-- ---- halves

half_in : (region root : Bounds) (at : ℕ) (half : Interval) → BoxIn region root → LiesIn half (interval_at region at) → BoxIn (slice_set region at half) root
half_in region root at half box lies = record {
  same_length = length-set region at half ∙ box.same_length;
  each = λ place inside.
      elim (cases_eq place at) [
        | inl e ↦
            let own = get_or-set_same region at half (pos 0, pos 0) (omega (arith, inside, e, box.same_length)) in
            let outer = rw e at (box.each place inside) in
            rw (e, own) (omega (arith, ints, lies.0, outer.0), (lies.1.0, omega (arith, ints, lies.1.1, outer.1.1)))
        | inr apart ↦
            let other = get_or-set_other region at place half (pos 0, pos 0) apart in
            rw other (box.each place inside)
      ];
}

pub boxes_halve : BoxesHalve
boxes_halve region root param cut box inside =
    let at = param - 1 in
    let whole = interval_at region at in
    let parts = and_parts (int_le whole.0 cut) (int_lt cut whole.1) inside in (
      half_in region root at (whole.0, cut) box (omega (arith, ints), (omega (arith, ints, parts.0), omega (arith, ints, parts.1))),
      half_in region root at (cut +ℤ pos 1, whole.1) box (omega (arith, ints, parts.0), (omega (arith, ints, parts.1), omega (arith, ints))),
    )
