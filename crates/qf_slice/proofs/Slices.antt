-- The slice of a point lies in the root box and is that point or better.
use Rattle.std.proofs.Common.{◌≡◌, ◌∙◌, ap, sym, subst, refl, inl, inr, ◌⊎◌, ℕ, zero, suc, ◌+◌, ◌-◌, ◌<◌, ◌≤◌, true, ℤ, pos, List, [], ◌∷◌, length, slice_index_or, arith}
use Rattle.std.proofs.lemmas.Int.{ints, clamps}
use Rattle.std.proofs.lemmas.List.{ext_get_or}
use Rattle.qf_base.specs.Values.{Interval, Bounds, IsIn, In, interval_at, interval_of_var}
use Rattle.qf_base.proofs.BoxLaws.{length-In, IsWithin-In, In-IsWithin}
use Rattle.qf_point.specs.Points.{change_cost, cost, better, clamped}
use Rattle.qf_point.proofs.PointLaws.{cheaper_better}
use Rattle.qf_goal.specs.Case.{Case}
use Rattle.qf_goal.specs.SoundCase.{IsSoundCase}
use Rattle.qf_slice.specs.RootBox.{IsNeeded, IsRootBox, old_alone}
use Rattle.qf_slice.specs.Laws.{RootBoxesAreEqual, IsSliced}
use Rattle.qf_slice.proofs.Stable.{same-interval}

-- ---- an interval of the root box is the domain, or the old constant alone

root-cases : (case : Case) (root : Bounds) → IsRootBox case root → (k : ℕ) → 1 ≤ k → k ≤ length root
    → (interval_of_var root k ≡ interval_of_var case.domains.region k) ⊎ ((IsNeeded case k → ⊥) × (interval_of_var root k ≡ old_alone case k))
root-cases case root is k low high =
    elim (same-interval (interval_of_var root k) (interval_of_var case.domains.region k)) [
      | inl same ↦ inl same
      | inr apart ↦ let other : IsNeeded case k → ⊥ = λ n. apart (is.needed k low high n) in inr (other, is.others k low high other)
    ]

-- ---- one root box

pub root-boxes-equal : RootBoxesAreEqual
root-boxes-equal case a b is_a is_b =
    let long_a = is_a.len in
    let long_b = is_b.len in
    ext_get_or (pos 0, pos 0) a b (omega (arith, long_a, long_b)) (λ i within.
    let same : (i + 1) - 1 ≡ i = omega arith in
    let eq : interval_of_var a (i + 1) ≡ interval_of_var b (i + 1) = equal-at (i + 1) (omega arith) (omega (arith, within)) (omega (arith, within, long_a, long_b)) in
    ap (interval_at a) (sym same) ∙ eq ∙ ap (interval_at b) same)
  where
    equal-at : (k : ℕ) → 1 ≤ k → k ≤ length a → k ≤ length b → interval_of_var a k ≡ interval_of_var b k
    equal-at k low in_a in_b =
        elim (same-interval (interval_of_var a k) (interval_of_var b k)) [
          | inl same ↦ same
          | inr apart ↦
              let other : IsNeeded case k → ⊥ = λ n. apart (is_a.needed k low in_a n ∙ sym (is_b.needed k low in_b n)) in
              is_a.others k low in_a other ∙ sym (is_b.others k low in_b other)
        ]

-- ---- the slice

abbrev pub slice_of : Bounds → List ℤ → List ℤ
slice_of [] q = []
slice_of (r ∷ root) [] = []
slice_of (r ∷ root) (v ∷ q) = clamped r v ∷ slice_of root q

length-slice : (root : Bounds) (q : List ℤ) → length root ≡ length q → length (slice_of root q) ≡ length q
length-slice [] [] long = refl
length-slice [] (v ∷ q) long = absurd (omega arith)
length-slice (r ∷ root) [] long = absurd (omega arith)
length-slice (r ∷ root) (v ∷ q) long = let rest = length-slice root q (omega arith) in omega (arith, rest)

slice-at : (root : Bounds) (q : List ℤ) (i : ℕ) → length root ≡ length q → i < length q → slice_index_or (slice_of root q) i (pos 0) ≡ clamped (interval_at root i) (slice_index_or q i (pos 0))
slice-at [] [] i long within = absurd (omega arith)
slice-at [] (v ∷ q) i long within = absurd (omega arith)
slice-at (r ∷ root) [] i long within = absurd (omega arith)
slice-at (r ∷ root) (v ∷ q) zero long within = refl
slice-at (r ∷ root) (v ∷ q) (suc i) long within = slice-at root q i (omega arith) (omega arith)

clamped-inside : (r : Interval) (v : ℤ) → IsIn v r → clamped r v ≡ v
clamped-inside r v h = let low = h.0 in let high = h.1 in omega (arith, ints, clamps, low, high)

clamped-alone : (o v : ℤ) → clamped (o, o) v ≡ o
clamped-alone o v = omega (arith, ints, clamps)

-- each value is q's or the old constant: the point is q, or costs less
one-nearer : (o v w : ℤ) → (v ≡ w) ⊎ (v ≡ o) → (v ≡ w) ⊎ (change_cost o v < change_cost o w)
one-nearer o v w near = elim near [ inl same ↦ inl same | inr is ↦ grind (arith, ints) ]

nearer : (olds p q : List ℤ) → length p ≡ length q → length olds ≡ length q
    → ((i : ℕ) → i < length q → (slice_index_or p i (pos 0) ≡ slice_index_or q i (pos 0)) ⊎ (slice_index_or p i (pos 0) ≡ slice_index_or olds i (pos 0)))
    → (p ≡ q) ⊎ (cost olds p < cost olds q)
nearer [] [] [] long many near = inl refl
nearer (o ∷ olds) [] [] long many near = absurd (omega arith)
nearer olds [] (w ∷ q) long many near = absurd (omega arith)
nearer olds (v ∷ p) [] long many near = absurd (omega arith)
nearer [] (v ∷ p) (w ∷ q) long many near = absurd (omega arith)
nearer (o ∷ olds) (v ∷ p) (w ∷ q) long many near =
    let rest = nearer olds p q (omega arith) (omega arith) (λ i within. near (suc i) (omega (arith, within))) in
    elim (one-nearer o v w (near 0 (omega arith))) [
      | inl same ↦ elim rest [
        | inl alike ↦ inl (ap (λ x. x ∷ p) same ∙ ap (λ xs. w ∷ xs) alike)
        | inr fewer ↦ let e : change_cost o v ≡ change_cost o w = ap (change_cost o) same in inr (omega (arith, e, fewer))
      ]
      | inr less ↦ elim rest [
        | inl alike ↦ let e : cost olds p ≡ cost olds q = ap (cost olds) alike in inr (omega (arith, e, less))
        | inr fewer ↦ inr (omega (arith, less, fewer))
      ]
    ]

module _ (case : Case) (root : Bounds) (sound : IsSoundCase case) (is : IsRootBox case root) where
  abbrev olds : List ℤ
  olds = case.plan.olds

  abbrev region : Bounds
  region = case.domains.region

  -- the same at places from 0
  place-cases : (i : ℕ) → i < length root
      → (interval_at root i ≡ interval_at region i) ⊎ (interval_at root i ≡ (slice_index_or olds i (pos 0), slice_index_or olds i (pos 0)))
  place-cases i within =
      let same : (i + 1) - 1 ≡ i = omega arith in
      elim (root-cases case root is (i + 1) (omega arith) (omega (arith, within))) [
        | inl whole ↦ inl (ap (interval_at root) (sym same) ∙ whole ∙ ap (interval_at region) same)
        | inr alone ↦ inr (ap (interval_at root) (sym same) ∙ alone.1 ∙ ap (λ n. (slice_index_or olds n (pos 0), slice_index_or olds n (pos 0))) same)
      ]

  old-inside : (i : ℕ) → i < length region → IsIn (slice_index_or olds i (pos 0)) (interval_at region i)
  old-inside i within = (IsWithin-In region olds sound.inside).each i within

  pub root-part : (q : List ℤ) → In root q → In region q
  root-part q h =
      let long = is.len in
      let many = length-In root q h in
      In-IsWithin region q (record {
        same_length = omega (arith, long, many);
        each = λ i within.
            let there = (IsWithin-In root q h).each i (omega (arith, within, long)) in
            elim (place-cases i (omega (arith, within, long))) [
              | inl whole ↦ subst (λ r. IsIn (slice_index_or q i (pos 0)) r) whole there
              | inr alone ↦
                  let at_old = subst (λ r. IsIn (slice_index_or q i (pos 0)) r) alone there in
                  let old = old-inside i within in
                  let a = old.0 in let b = old.1 in let c = at_old.0 in let d = at_old.1 in
                  (omega (arith, ints, a, b, c, d), omega (arith, ints, a, b, c, d))
            ];
      })

  module _ (q : List ℤ) (inside : In region q) where
    abbrev p : List ℤ
    p = slice_of root q

    long-root : length root ≡ length q
    long-root = let a = is.len in let b = length-In region q inside in omega (arith, a, b)

    long-olds : length olds ≡ length q
    long-olds = let a = length-In region olds sound.inside in let b = length-In region q inside in omega (arith, a, b)

    q-inside : (i : ℕ) → i < length q → IsIn (slice_index_or q i (pos 0)) (interval_at region i)
    q-inside i within = let long = length-In region q inside in (IsWithin-In region q inside).each i (omega (arith, within, long))

    whole-at : (i : ℕ) → i < length q → interval_at root i ≡ interval_at region i → slice_index_or p i (pos 0) ≡ slice_index_or q i (pos 0)
    whole-at i within whole =
        slice-at root q i long-root within ∙ ap (λ r. clamped r (slice_index_or q i (pos 0))) whole
        ∙ clamped-inside (interval_at region i) (slice_index_or q i (pos 0)) (q-inside i within)

    alone-at : (i : ℕ) → i < length q → interval_at root i ≡ (slice_index_or olds i (pos 0), slice_index_or olds i (pos 0)) → slice_index_or p i (pos 0) ≡ slice_index_or olds i (pos 0)
    alone-at i within alone =
        slice-at root q i long-root within ∙ ap (λ r. clamped r (slice_index_or q i (pos 0))) alone ∙ clamped-alone (slice_index_or olds i (pos 0)) (slice_index_or q i (pos 0))

    near-at : (i : ℕ) → i < length q → (slice_index_or p i (pos 0) ≡ slice_index_or q i (pos 0)) ⊎ (slice_index_or p i (pos 0) ≡ slice_index_or olds i (pos 0))
    near-at i within =
        let long = long-root in
        elim (place-cases i (omega (arith, within, long))) [ inl whole ↦ inl (whole-at i within whole) | inr alone ↦ inr (alone-at i within alone) ]

    pub as-good : (p ≡ q) ⊎ (better olds p q ≡ true)
    as-good = elim (nearer olds p q (length-slice root q long-root) long-olds near-at) [ inl same ↦ inl same | inr fewer ↦ inr (cheaper_better olds p q fewer) ]

    pub slice-inside : In root p
    slice-inside =
        let long = long-root in
        let len = length-slice root q long-root in
        In-IsWithin root p (record {
          same_length = omega (arith, long, len);
          each = λ i within.
              let low : i < length q = omega (arith, within, long) in
              elim (place-cases i within) [
                | inl whole ↦
                    subst (λ v. IsIn v (interval_at root i)) (sym (whole-at i low whole))
                    (subst (λ r. IsIn (slice_index_or q i (pos 0)) r) (sym whole) (q-inside i low))
                | inr alone ↦
                    let o = slice_index_or olds i (pos 0) in
                    let self : IsIn o (o, o) = (omega (arith, ints), omega (arith, ints)) in
                    subst (λ v. IsIn v (interval_at root i)) (sym (alone-at i low alone)) (subst (λ r. IsIn o r) (sym alone) self)
              ];
        })

    pub is-sliced : IsSliced case q p
    is-sliced = record {
      len = length-slice root q long-root;
      needed = λ k low high n. let long = long-root in whole-at (k - 1) (omega (arith, low, high)) (is.needed k low (omega (arith, high, long)) n);
      others = λ k low high other. let long = long-root in alone-at (k - 1) (omega (arith, low, high)) (is.others k low (omega (arith, high, long)) other);
    }
