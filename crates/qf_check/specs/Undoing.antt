-- What is still to be refuted, told from the bounds at hand and the changes that led to them.
use Rattle.std.specs.Prelude.{◌≡◌, ℕ, suc, ◌-◌, ◌<◌, ◌≤◌, Bool, true, false, List, [], ◌∷◌, length, slice_set, count_by, int_lt, All}
use Rattle.std.specs.List.Sorted.{IsNonDecreasing}
use Rattle.qf_base.specs.Values.{Interval, Bounds, interval_of_var}
use Rattle.qf_base.specs.declared.names.Bound.{Bound}
use Rattle.qf_lin.specs.declared.inequality.System.{System}
use Rattle.qf_lin.specs.Inequalities.{with_bound}
use Rattle.qf_lin.specs.Steps.{case_one}
use Rattle.qf_tree.specs.Refutations.{Pending}
use Rattle.qf_instance.specs.RowSystems.{FitsUnlessEmpty}
use Rattle.qf_check.specs.declared.refuting.Cause.{Cause}
use Rattle.qf_check.specs.declared.refuting.Cause.TheVariants.{Tight, Zero, One}
use Rattle.qf_check.specs.declared.refuting.Change.{Change}
use Rattle.qf_check.specs.declared.refuting.Refuting.{Refuting}

-- the bounds before a change
abbrev pub undone : Bounds → Change → Bounds
undone bounds change = slice_set bounds (change.var - 1) change.former

abbrev pub counted : Cause → ℕ → ℕ
counted Tight depth = depth
counted Zero depth = suc depth
counted One depth = suc depth

-- how many cases are nested
abbrev pub case_count : List Change → ℕ
case_count [] = 0
case_count (change ∷ changes) = counted change.cause (case_count changes)

-- a case 0 leaves the case 1 of the bounds before it
abbrev pub with_case : Cause → Bounds → ℕ → ℕ → Pending → Pending
with_case Tight bounds var depth later = later
with_case Zero bounds var depth later = (case_one bounds var, suc depth) ∷ later
with_case One bounds var depth later = later

-- the cases that are still to come, where these changes, the last one first, led to the bounds
abbrev pub cases_to_come : Bounds → List Change → Pending
cases_to_come bounds [] = []
cases_to_come bounds (change ∷ changes) =
    with_case change.cause (undone bounds change) change.var (case_count changes) (cases_to_come (undone bounds change) changes)

abbrev pub pending_unless : Bool → Bounds → List Change → Pending
pending_unless true bounds changes = []
pending_unless false bounds changes = (bounds, case_count changes) ∷ cases_to_come bounds changes

-- all that is still to be refuted
abbrev pub pending : Refuting → Pending
pending r = pending_unless r.is_done r.bounds r.changes

-- ---- what is kept while steps are taken

abbrev pub is_crossed : Interval → Bool
is_crossed interval = int_lt interval.1 interval.0

abbrev pub once : Bool → ℕ
once true = 1
once false = 0

-- numbers of variables, of which there are so many
abbrev pub AreVars : ℕ → List ℕ → Type 0
AreVars count vars = All (λ (var : ℕ). (0 < var) × (var ≤ count)) vars

-- the system can be used, unless they are empty, over the bounds and over those before each change, whose variable is there
abbrev pub FitsThroughout : System → Bounds → List Change → Type 0
FitsThroughout system bounds [] = FitsUnlessEmpty system bounds
FitsThroughout system bounds (change ∷ changes) =
    FitsUnlessEmpty system bounds × ((0 < change.var) × ((change.var ≤ length bounds) × FitsThroughout system (undone bounds change) changes))

-- the counts are right, and the system can be used all along
pub record IsTracked (system : System) (r : Refuting) : Type 0 where
  pub selectors : AreVars (length r.bounds) system.selectors
  pub rising : IsNonDecreasing system.selectors
  pub fits : FitsThroughout system r.bounds r.changes
  pub crossed : r.crossed ≡ count_by is_crossed r.bounds
  pub depth : r.depth ≡ case_count r.changes
  pub shallow : r.depth ≤ 8

-- these are still to be refuted
pub record GoesOn (system : System) (r : Refuting) (ps : Pending) : Type 0 where
  pub tracked : IsTracked system r
  pub left : pending r ≡ ps

-- the bounds took a bound, and the change is noted
pub record Took (old new : Refuting) (cause : Cause) (var : ℕ) (bound : Bound) : Type 0 where
  pub first : 0 < var
  pub last : var ≤ length old.bounds
  pub bounds : new.bounds ≡ with_bound old.bounds var bound
  pub crossed : new.crossed ≡ count_by is_crossed new.bounds
  pub changes : new.changes ≡ record { cause = cause; var = var; former = interval_of_var old.bounds var } ∷ old.changes
  pub depth : new.depth ≡ counted cause old.depth
  pub shallow : new.depth ≤ 8
  pub is_done : new.is_done ≡ false
