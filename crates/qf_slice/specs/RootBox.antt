-- The box that is searched: the needed parameters have their domains, all others their old constants alone.
use Rattle.std.specs.Prelude.{◌≡◌, ℕ, ◌≤◌, Bool, not, length, count_by}
use Rattle.std.specs.Ordering.{int_eq}
use Rattle.qf_base.specs.Values.{Interval, Bounds, interval_of_var, value_of_var}
use Rattle.qf_ir.specs.Flow.{Needed}
use Rattle.qf_goal.specs.Case.{Case}
use Rattle.qf_goal.specs.SeedPlaces.{case_seeds}

-- the parameter can matter to what is asked
abbrev pub IsNeeded : Case → ℕ → Type 0
IsNeeded case k = Needed case.plan.statements (case_seeds case) k

abbrev pub old_alone : Case → ℕ → Interval
old_alone case k = (value_of_var case.plan.olds k, value_of_var case.plan.olds k)

-- parameters count from 1
pub record IsRootBox (case : Case) (root : Bounds) : Type 0 where
  pub len : length root ≡ length case.domains.region
  pub needed : (k : ℕ) → 1 ≤ k → k ≤ length root → IsNeeded case k → interval_of_var root k ≡ interval_of_var case.domains.region k
  pub others : (k : ℕ) → 1 ≤ k → k ≤ length root → (IsNeeded case k → ⊥) → interval_of_var root k ≡ old_alone case k

-- the interval has more than one value
abbrev pub is_open : Interval → Bool
is_open r = not (int_eq r.0 r.1)

abbrev pub open_count : Bounds → ℕ
open_count region = count_by is_open region
