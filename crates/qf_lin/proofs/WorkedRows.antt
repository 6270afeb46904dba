-- Worked sweeps and cases, computed.
use Rattle.std.proofs.Common.{◌≡◌, true, false, [], ◌∷◌, ℤ, pos, negsuc, refl}
use Rattle.qf_base.specs.Values.{Bounds}
use Rattle.qf_base.specs.declared.names.Bound.TheVariants.{Low, High}
use Rattle.qf_lin.specs.declared.inequality.System.{System}
use Rattle.qf_lin.specs.declared.step.Step.TheVariants.{Tight}
use Rattle.qf_lin.specs.Inequalities.{swept}
use Rattle.qf_lin.specs.Steps.{case_zero, case_one, ends_empty, is_closable, LeadsTo}

-- ---- a sweep of one constant

-- a table of one cell 0 and the log UPDATE t SET a = a + 5, whose constant may be 0 to 10, with the complaint that the cell
-- should be 9: the definitions 0, 1, the constant, and the new cell, which is the sum of the first and the third
abbrev one_constant : System
one_constant = record {
  inequalities =
      record { terms = (pos 1, 1) ∷ (pos 1, 3) ∷ (negsuc 0, 4) ∷ []; least = pos 0 }
      ∷ record { terms = (negsuc 0, 1) ∷ (negsuc 0, 3) ∷ (pos 1, 4) ∷ []; least = pos 0 }
      ∷ record { terms = (pos 1, 2) ∷ []; least = pos 1 }
      ∷ record { terms = (pos 1, 4) ∷ []; least = pos 9 }
      ∷ record { terms = (negsuc 0, 4) ∷ []; least = negsuc 8 }
      ∷ [];
  vars = 4;
  selectors = [];
}

-- the hull where the constant lies in the interval
abbrev hull_over : ℤ → ℤ → Bounds
hull_over low high = (pos 0, pos 0) ∷ (pos 1, pos 1) ∷ (low, high) ∷ (low, high) ∷ []

-- after one sweep the constant and the new cell are 9
sweep_of_one_constant : swept one_constant.inequalities (hull_over (pos 0) (pos 10)) ≡ hull_over (pos 9) (pos 9)
sweep_of_one_constant = refl

-- by the stated cell's two sides forwards, and the sum's backwards
sweep_steps : LeadsTo one_constant (hull_over (pos 0) (pos 10)) (Tight 4 4 (Low (pos 9)) ∷ Tight 5 4 (High (pos 9)) ∷ Tight 2 3 (High (pos 9)) ∷ Tight 1 3 (Low (pos 9)) ∷ []) (hull_over (pos 9) (pos 9))
sweep_steps = (refl, (refl, (refl, (refl, refl))))

one_constant_stays_open : is_closable one_constant (hull_over (pos 0) (pos 10)) ≡ false
one_constant_stays_open = refl

-- below 9 the row can't meet its goal
one_constant_closed_below : is_closable one_constant (hull_over (pos 0) (pos 8)) ≡ true
one_constant_closed_below = refl

-- ---- two cases that are closed

-- y from 0 to 10 and a selector s: y at least 6 and at most 5 where s is 0, and again where s is 1
abbrev two_cases : System
two_cases = record {
  inequalities =
      record { terms = (pos 1, 1) ∷ (pos 6, 2) ∷ []; least = pos 6 }
      ∷ record { terms = (negsuc 0, 1) ∷ (pos 5, 2) ∷ []; least = negsuc 4 }
      ∷ record { terms = (pos 1, 1) ∷ (negsuc 5, 2) ∷ []; least = pos 0 }
      ∷ record { terms = (negsuc 0, 1) ∷ (negsuc 4, 2) ∷ []; least = negsuc 9 }
      ∷ [];
  vars = 2;
  selectors = 2 ∷ [];
}

abbrev two_cases_bounds : Bounds
two_cases_bounds = (pos 0, pos 10) ∷ (pos 0, pos 1) ∷ []

-- sweeps change nothing
two_cases_unchanged : swept two_cases.inequalities two_cases_bounds ≡ two_cases_bounds
two_cases_unchanged = refl

two_cases_not_empty : ends_empty two_cases.inequalities two_cases_bounds ≡ false
two_cases_not_empty = refl

case_of_zero_empty : ends_empty two_cases.inequalities (case_zero two_cases_bounds 2) ≡ true
case_of_zero_empty = refl

case_of_one_empty : ends_empty two_cases.inequalities (case_one two_cases_bounds 2) ≡ true
case_of_one_empty = refl

-- and yet both cases end empty
two_cases_closed : is_closable two_cases two_cases_bounds ≡ true
two_cases_closed = refl
