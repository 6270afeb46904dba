-- Nothing is lost by searching the root box alone.
use Rattle.std.specs.Prelude.{◌≡◌, ℕ, ◌≤◌, ◌↔◌, ◌⊎◌, ℤ, true, List, length}
use Rattle.std.specs.FinSet as set
use Rattle.std.specs.Ordering.{nat_cmp}
use Rattle.qf_base.specs.Values.{Bounds, In, value_of_var}
use Rattle.qf_point.specs.Points.{better}
use Rattle.qf_point.specs.Domains.{sliced_from}
use Rattle.qf_point.specs.Least.{Least, Nothing}
use Rattle.qf_goal.specs.Case.{Case, Mends, IsLeastRepair, HasNoRepair}
use Rattle.qf_goal.specs.SeedPlaces.{case_seeds}
use Rattle.qf_goal.specs.SoundCase.{IsSoundCase}
use Rattle.qf_slice.specs.Marks.{IsNeededSet}
use Rattle.qf_slice.specs.RootBox.{IsNeeded, IsRootBox}

-- a case has only one root box
abbrev pub RootBoxesAreEqual : Type 0
RootBoxesAreEqual = (case : Case) (a b : Bounds) → IsRootBox case a → IsRootBox case b → a ≡ b

-- the point has q's values at the needed parameters and the old constants elsewhere
pub record IsSliced (case : Case) (q p : List ℤ) : Type 0 where
  pub len : length p ≡ length q
  pub needed : (k : ℕ) → 1 ≤ k → k ≤ length q → IsNeeded case k → value_of_var p k ≡ value_of_var q k
  pub others : (k : ℕ) → 1 ≤ k → k ≤ length q → (IsNeeded case k → ⊥) → value_of_var p k ≡ value_of_var case.plan.olds k

-- such a point of the root box, that repairs, and is q or better
pub record HasSlice (case : Case) (root : Bounds) (q : List ℤ) : Type 0 where
  pub point : List ℤ
  pub sliced : IsSliced case q point
  pub inside : In root point
  pub mends : Mends case point
  pub as_good : (point ≡ q) ⊎ (better case.plan.olds point q ≡ true)

-- where a point of the domains repairs, its slice does
abbrev pub SlicingLosesNoRepair : Type 0
SlicingLosesNoRepair =
    (case : Case) (root : Bounds) → IsSoundCase case → IsRootBox case root → (q : List ℤ) → In case.domains.region q → Mends case q → HasSlice case root q

-- the least repair of the root box is the least repair
abbrev pub RootBoxHasTheLeastRepair : Type 0
RootBoxHasTheLeastRepair =
    (case : Case) (root : Bounds) → IsSoundCase case → IsRootBox case root → (p : List ℤ) → Least (Mends case) root case.plan.olds p ↔ IsLeastRepair case p

-- where nothing in the root box repairs, nothing does
abbrev pub RootBoxMissesNoRepair : Type 0
RootBoxMissesNoRepair = (case : Case) (root : Bounds) → IsSoundCase case → IsRootBox case root → Nothing (Mends case) root ↔ HasNoRepair case

-- the box in which the parameters of the needed set have their domains is the root box
abbrev pub SliceIsTheRootBox : Type 0
SliceIsTheRootBox =
    (case : Case) (params : set.FinSet nat_cmp) → IsSoundCase case → IsNeededSet case.plan.statements (case_seeds case) params
    → IsRootBox case (sliced_from 1 case.domains.olds case.domains.region params)
