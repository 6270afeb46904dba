-- Inequalities over whole numbers, the intervals of their variables, and what an inequality says of one variable.
use Rattle.std.specs.Prelude.{ℕ, ◌-◌, length, ◌<◌, ◌≤◌, ◌^◌, max, Bool, false, cond, ◌||◌, ◌==◌, List, [], ◌∷◌, ◌++◌, reverse, fold, sum_by, slice_set, ℤ, pos, ◌-ℤ◌, ◌*ℤ◌, neg_ℤ, ◌≤ℤ◌, int_lt, unsigned_abs, Option, Some, None, All, AllPairs, ◌≢◌}
use Rattle.std.specs.Int.{int_max, int_min, int_div_euclid}
use Rattle.qf_base.specs.declared.names.Bound.{Bound}
use Rattle.qf_base.specs.declared.names.Bound.TheVariants.{Low, High}
use Rattle.qf_base.specs.Values.{Interval, Bounds, Term, interval_of_var, int_sum_by, total}
use Rattle.qf_lin.specs.declared.inequality.Inequality.{Inequality}
use Rattle.qf_lin.specs.declared.inequality.System.{System}

-- ---- what an inequality says

abbrev pub Holds : Inequality → List ℤ → Type 0
Holds row values = row.least ≤ℤ total row.terms values

abbrev pub AllHold : List Inequality → List ℤ → Type 0
AllHold rows values = All (λ row. Holds row values) rows

-- ---- tightening

-- the greatest value of a factor times a value of the interval
abbrev pub greatest_product : ℤ → Interval → ℤ
greatest_product factor interval = cond (int_lt factor (pos 0)) (factor *ℤ interval.0) (factor *ℤ interval.1)

abbrev pub greatest_term : Bounds → Term → ℤ
greatest_term bounds t = greatest_product t.0 (interval_of_var bounds t.1)

-- the greatest value of a sum
abbrev pub greatest : List Term → Bounds → ℤ
greatest terms bounds = int_sum_by (greatest_term bounds) terms

-- the greatest value of the terms of other variables
abbrev pub greatest_of_others : List Term → Bounds → ℕ → ℤ
greatest_of_others terms bounds var = int_sum_by (λ t. cond (t.1 == var) (pos 0) (greatest_term bounds t)) terms

-- the factor of a variable, 0 where it is not in the row
abbrev pub factor_of : List Term → ℕ → ℤ
factor_of terms var = int_sum_by (λ t. cond (t.1 == var) t.0 (pos 0)) terms

-- a quotient by a positive number, rounded
abbrev pub rounded_down : ℤ → ℤ → ℤ
rounded_down z by_positive = int_div_euclid z by_positive

abbrev pub rounded_up : ℤ → ℤ → ℤ
rounded_up z by_positive = neg_ℤ (rounded_down (neg_ℤ z) by_positive)

-- what `factor * x + rest >= least` says of x
abbrev pub bound_by : ℤ → ℤ → ℤ → Bound
bound_by factor rest least =
    cond (int_lt factor (pos 0)) (High (rounded_down (rest -ℤ least) (neg_ℤ factor))) (Low (rounded_up (least -ℤ rest) factor))

-- the bound that an inequality gives for one of its variables
abbrev pub tight_bound : Inequality → Bounds → ℕ → Bound
tight_bound row bounds var =
    bound_by (factor_of row.terms var) (greatest_of_others row.terms bounds var) row.least

-- a bound says more than an interval
abbrev pub is_better : Bound → Interval → Bool
is_better (Low least) interval = int_lt interval.0 least
is_better (High most) interval = int_lt most interval.1

-- the bound that an inequality gives, where it is better than the present one
abbrev pub better_bound : Inequality → Bounds → ℕ → Option Bound
better_bound row bounds var =
    cond (is_better (tight_bound row bounds var) (interval_of_var bounds var)) (Some (tight_bound row bounds var)) None

-- the interval with the bound taken where it is better
abbrev pub taken : Bound → Interval → Interval
taken (Low least) interval = (int_max interval.0 least, interval.1)
taken (High most) interval = (interval.0, int_min interval.1 most)

abbrev pub with_bound : Bounds → ℕ → Bound → Bounds
with_bound bounds var bound = slice_set bounds (var - 1) (taken bound (interval_of_var bounds var))

-- some lower bound is above its upper bound
abbrev pub is_empty : Bounds → Bool
is_empty [] = false
is_empty (interval ∷ rest) = int_lt interval.1 interval.0 || is_empty rest

-- ---- sweeps

-- one tightening, which leaves empty bounds alone
abbrev pub tightened : Inequality → Bounds → Term → Bounds
tightened row bounds t = cond (is_empty bounds) bounds (with_bound bounds t.1 (tight_bound row bounds t.1))

-- the terms of a row in order
abbrev pub row_swept : Bounds → Inequality → Bounds
row_swept bounds row = fold (tightened row) bounds row.terms

-- the rows forwards and then backwards
abbrev pub swept : List Inequality → Bounds → Bounds
swept rows bounds = fold row_swept bounds (rows ++ reverse rows)

-- ---- limits on numbers

abbrev pub largest_size : Bounds → Term → ℕ
largest_size bounds t = max (unsigned_abs (t.0 *ℤ (interval_of_var bounds t.1).0)) (unsigned_abs (t.0 *ℤ (interval_of_var bounds t.1).1))

-- the row names only variables of the bounds
abbrev pub NamesVars : List Term → ℕ → Type 0
NamesVars terms vars = All (λ t. (0 < t.1) × (t.1 ≤ vars)) terms

-- every number that comes up is within 2^58
pub record IsSmall (row : Inequality) (bounds : Bounds) : Type 0 where
  pub least : unsigned_abs row.least ≤ 2 ^ 58
  pub terms : sum_by (largest_size bounds) row.terms ≤ 2 ^ 58

-- the variables of a row differ, and its factors are not 0
abbrev pub IsProper : List Term → Type 0
IsProper terms = All (λ t. t.0 ≢ pos 0) terms × AllPairs (λ t u. t.1 ≢ u.1) terms

-- ---- systems

-- the inequalities name variables that exist, each once and with a factor that is not 0, and so do the selectors
pub record IsWellFormed (system : System) : Type 0 where
  pub few : length system.inequalities < 2 ^ 32
  pub named : All (λ (row : Inequality). NamesVars row.terms system.vars) system.inequalities
  pub proper : All (λ (row : Inequality). IsProper row.terms) system.inequalities
  pub selectors : All (λ (var : ℕ). (0 < var) × (var ≤ system.vars)) system.selectors

-- every number that comes up as an inequality is used over the bounds is within 2^58
abbrev pub AreSmall : List Inequality → Bounds → Type 0
AreSmall rows bounds = All (λ (row : Inequality). IsSmall row bounds) rows
