-- The slice of the domains by the needed set.
use Rattle.std.proofs.Common.{◌≡◌, ◌∙◌, ap, refl, ℕ, zero, suc, ◌+◌, ◌-◌, ◌<◌, ◌≤◌, Bool, true, false, if◌then◌else◌, ℤ, pos, List, [], ◌∷◌, length, slice_index_or, arith}
use Rattle.std.specs.FinSet as set
use Rattle.std.specs.Ordering.{nat_cmp}
use Rattle.qf_base.specs.Values.{Bounds, interval_at, interval_of_var}
use Rattle.qf_base.proofs.BoxLaws.{length-In}
use Rattle.qf_point.specs.Domains.{sliced_from}
use Rattle.qf_goal.specs.Case.{Case}
use Rattle.qf_goal.specs.SeedPlaces.{case_seeds}
use Rattle.qf_goal.specs.SoundCase.{IsSoundCase}
use Rattle.qf_impact.proofs.Tests.{never}
use Rattle.qf_slice.specs.Marks.{IsNeededSet}
use Rattle.qf_slice.specs.RootBox.{IsRootBox}
use Rattle.qf_slice.specs.Laws.{SliceIsTheRootBox}

length-sliced : (n : ℕ) (olds : List ℤ) (region : Bounds) (params : set.FinSet nat_cmp) → length olds ≡ length region → length (sliced_from n olds region params) ≡ length region
length-sliced n [] [] params long = refl
length-sliced n [] (r ∷ region) params long = absurd (omega arith)
length-sliced n (o ∷ olds) [] params long = absurd (omega arith)
length-sliced n (o ∷ olds) (r ∷ region) params long = let rest = length-sliced (n + 1) olds region params (omega arith) in omega (arith, rest)

sliced-at : (n : ℕ) (olds : List ℤ) (region : Bounds) (params : set.FinSet nat_cmp) (i : ℕ) → length olds ≡ length region → i < length region
    → interval_at (sliced_from n olds region params) i
    ≡ (if set.contains params (n + i) then interval_at region i else (slice_index_or olds i (pos 0), slice_index_or olds i (pos 0)))
sliced-at n [] [] params i long within = absurd (omega arith)
sliced-at n [] (r ∷ region) params i long within = absurd (omega arith)
sliced-at n (o ∷ olds) [] params i long within = absurd (omega arith)
sliced-at n (o ∷ olds) (r ∷ region) params zero long within = let e : n ≡ n + 0 = omega arith in ap (λ k. if set.contains params k then r else (o, o)) e
sliced-at n (o ∷ olds) (r ∷ region) params (suc i) long within =
    let e : (n + 1) + i ≡ n + suc i = omega arith in
    sliced-at (n + 1) olds region params i (omega arith) (omega arith)
    ∙ ap (λ k. if set.contains params k then interval_at region i else (slice_index_or olds i (pos 0), slice_index_or olds i (pos 0))) e

module _ (case : Case) (params : set.FinSet nat_cmp) (sound : IsSoundCase case) (are : IsNeededSet case.plan.statements (case_seeds case) params) where
  abbrev olds : List ℤ
  olds = case.domains.olds

  abbrev region : Bounds
  region = case.domains.region

  many : length olds ≡ length region
  many = let a = length-In case.domains.region case.plan.olds sound.inside in let b = ap length sound.olds in omega (arith, a, b)

  chosen : (k : ℕ) → 1 ≤ k → k ≤ length region → (b : Bool) → set.contains params k ≡ b
      → interval_of_var (sliced_from 1 olds region params) k ≡ (if b then interval_of_var region k else (slice_index_or olds (k - 1) (pos 0), slice_index_or olds (k - 1) (pos 0)))
  chosen k low high b is =
      let e : 1 + (k - 1) ≡ k = omega (arith, low) in
      sliced-at 1 olds region params (k - 1) many (omega (arith, low, high))
      ∙ ap (λ (t : Bool). if t then interval_at region (k - 1) else (slice_index_or olds (k - 1) (pos 0), slice_index_or olds (k - 1) (pos 0))) (ap (set.contains params) e ∙ is)

  sliced-root : IsRootBox case (sliced_from 1 olds region params)
  sliced-root =
      let long = length-sliced 1 olds region params many in
      record {
        len = long;
        needed = λ k low high n. chosen k low (omega (arith, high, long)) true ((are k).1 n);
        others = λ k low high other.
            chosen k low (omega (arith, high, long)) false (never (set.contains params k) (λ e. other ((are k).0 e)))
            ∙ ap (λ (os : List ℤ). (slice_index_or os (k - 1) (pos 0), slice_index_or os (k - 1) (pos 0))) sound.olds;
      }

pub slice-is-root : SliceIsTheRootBox
slice-is-root case params sound are = sliced-root case params sound are
