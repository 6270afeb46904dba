-- Boxes sliced by marks are the root box.
use Rattle.std.proofs.Common.{◌≡◌, ◌∙◌, ap, sym, subst, ℕ, zero, suc, ◌-◌, ◌<◌, ◌≤◌, Bool, true, false, if◌then◌else◌, ℤ, pos, ◌≤ℤ◌, List, [], ◌∷◌, length, slice_index_or, slice_get, arith}
use Rattle.std.specs.declared.option.Option.TheVariants.{Some}
use Rattle.std.proofs.lemmas.Int.{ints}
use Rattle.std.proofs.lemmas.List.Elements.{All-cons, All-nil}
use Rattle.qf_base.specs.Values.{Interval, Bounds, IsIn, In, interval_at, interval_of_var}
use Rattle.qf_base.proofs.BoxLaws.{length-In, IsWithin-In, In-IsWithin}
use Rattle.qf_point.specs.Points.{HasNoEmpty}
use Rattle.qf_ir.specs.Plan.{Plan}
use Rattle.qf_goal.specs.Case.{Case}
use Rattle.qf_goal.specs.SoundCase.{IsSoundCase}
use Rattle.qf_goal.specs.SeedPlaces.{case_seeds}
use Rattle.qf_impact.proofs.Tests.{never}
use Rattle.qf_slice.specs.Marks.{mark_at, AreNeeded}
use Rattle.qf_slice.specs.Sliced.{IsSlicedBox}
use Rattle.qf_slice.specs.RootBox.{IsRootBox, old_alone}

module _ (case : Case) (marks : List Bool) (root : Bounds) (are : AreNeeded case.plan.statements (case_seeds case) marks)
    (sliced : IsSlicedBox marks case.plan.olds case.domains.region root) (len : length marks ≡ length case.domains.region) where
  abbrev olds : List ℤ
  olds = case.plan.olds

  abbrev region : Bounds
  region = case.domains.region

  chosen : (k : ℕ) → 1 ≤ k → k ≤ length root → (b : Bool) → mark_at marks (k - 1) ≡ b → interval_of_var root k ≡ (if b then interval_of_var region k else old_alone case k)
  chosen k low high b is =
      let same = sliced.len in
      sliced.each (k - 1) (omega (arith, low, high, same)) ∙ ap (λ t. if t then interval_of_var region k else old_alone case k) is

  pub is-root : IsRootBox case root
  is-root = record {
    len = sliced.len;
    needed = λ k low high needed.
        let same = sliced.len in
        chosen k low high true ((are k low (omega (arith, high, same, len))).1 needed);
    others = λ k low high other.
        let same = sliced.len in
        chosen k low high false (never (mark_at marks (k - 1)) (λ marked. other ((are k low (omega (arith, high, same, len))).0 marked)));
  }

-- what is known of a sliced box whose whole box holds the old constants
module _ (marks : List Bool) (olds : List ℤ) (region root : Bounds) (sliced : IsSlicedBox marks olds region root) (inside : In region olds) where
  old-at : (i : ℕ) → i < length region → IsIn (slice_index_or olds i (pos 0)) (interval_at region i)
  old-at i within = (IsWithin-In region olds inside).each i within

  by-mark : (P : Interval → Type 0) (i : ℕ) → i < length region → P (interval_at region i) → P (slice_index_or olds i (pos 0), slice_index_or olds i (pos 0)) → P (interval_at root i)
  by-mark P i within whole alone = subst P (sym (sliced.each i within)) (pick (mark_at marks i))
    where
      pick : (b : Bool) → P (if b then interval_at region i else (slice_index_or olds i (pos 0), slice_index_or olds i (pos 0)))
      pick true = whole
      pick false = alone

  pub holds-old : In root olds
  holds-old =
      let same = sliced.len in
      let lengths = length-In region olds inside in
      In-IsWithin root olds (record {
        same_length = omega (arith, same, lengths);
        each = λ i within.
            let low : i < length region = omega (arith, within, same) in
            by-mark (λ r. IsIn (slice_index_or olds i (pos 0)) r) i low (old-at i low) (omega (arith, ints), omega (arith, ints));
      })

  spans : (r : Interval) (v : ℤ) → IsIn v r → r.0 ≤ℤ r.1
  spans r v h = let low = h.0 in let high = h.1 in omega (arith, ints, low, high)

  pub part-of : (q : List ℤ) → In root q → In region q
  part-of q h =
      let same = sliced.len in
      let lengths = length-In root q h in
      In-IsWithin region q (record {
        same_length = omega (arith, same, lengths);
        each = λ i within. by-mark (λ r. IsIn (slice_index_or q i (pos 0)) r → IsIn (slice_index_or q i (pos 0)) (interval_at region i)) i within
            (λ there. there)
            (λ there.
            let old = old-at i within in
            let a = old.0 in let b = old.1 in let c = there.0 in let d = there.1 in
            (omega (arith, ints, a, b, c, d), omega (arith, ints, a, b, c, d)))
            ((IsWithin-In root q h).each i (omega (arith, within, same)));
      })

pub no-empty : (region : Bounds) (q : List ℤ) → In region q → HasNoEmpty region
no-empty [] [] h = All-nil _
no-empty [] (v ∷ q) h = absurd h
no-empty (r ∷ region) [] h = absurd h
no-empty (r ∷ region) (v ∷ q) h =
    let low = h.0 in let high = h.1 in
    let fits : r.0 ≤ℤ r.1 = omega (arith, ints, low, high) in
    All-cons (λ (s : Interval). s.0 ≤ℤ s.1) r region fits (no-empty region q h.2)

pub at-get : (region : Bounds) (i : ℕ) (r : Interval) (d : Interval) → slice_get region i ≡ Some r → slice_index_or region i d ≡ r
at-get [] i r d got = absurd (cc)
at-get (x ∷ region) zero r d got = cc
at-get (x ∷ region) (suc i) r d got = at-get region i r d got

pub get-within : (region : Bounds) (i : ℕ) (r : Interval) → slice_get region i ≡ Some r → i < length region
get-within [] i r got = absurd (cc)
get-within (x ∷ region) zero r got = omega arith
get-within (x ∷ region) (suc i) r got = let rest = get-within region i r got in omega (arith, rest)

-- what a call finds of the parts that it was made from
pub record RootIs (case : Case) (root : Bounds) : Type 0 where
  pub root_box : IsRootBox case root
  pub spans : HasNoEmpty root
  pub old : In root case.plan.olds
  pub within : (q : List ℤ) → In root q → In case.domains.region q

pub root-is : (case : Case) (plan : Plan) (marks slice : List Bool) (olds : List ℤ) (region root : Bounds) → IsSoundCase case → plan ≡ case.plan
    → AreNeeded plan.statements (case_seeds case) marks → length marks ≡ length plan.olds → slice ≡ marks → olds ≡ plan.olds → region ≡ case.domains.region
    → IsSlicedBox slice olds region root → RootIs case root
root-is case plan marks slice olds region root sound is_plan are len is_slice is_olds is_region sliced =
    let same_olds : olds ≡ case.plan.olds = is_olds ∙ ap (λ (p : Plan). p.olds) is_plan in
    let by_marks : IsSlicedBox marks olds region root = subst (λ (ms : List Bool). IsSlicedBox ms olds region root) is_slice sliced in
    let by_olds : IsSlicedBox marks case.plan.olds region root = subst (λ (os : List ℤ). IsSlicedBox marks os region root) same_olds by_marks in
    let box : IsSlicedBox marks case.plan.olds case.domains.region root = subst (λ (r : Bounds). IsSlicedBox marks case.plan.olds r root) is_region by_olds in
    let needed : AreNeeded case.plan.statements (case_seeds case) marks = subst (λ (p : Plan). AreNeeded p.statements (case_seeds case) marks) is_plan are in
    let many : length marks ≡ length case.domains.region =
    len ∙ ap (λ (p : Plan). length p.olds) is_plan ∙ sym (length-In case.domains.region case.plan.olds sound.inside) in
    let old = holds-old marks case.plan.olds case.domains.region root box sound.inside in
    record {
      root_box = is-root case marks root needed box many;
      spans = no-empty root case.plan.olds old;
      old = old;
      within = part-of marks case.plan.olds case.domains.region root box sound.inside;
    }
