-- What a probe adds to a list of steps.
use Rattle.std.specs.Prelude.{◌≡◌, ℕ, Bool, ◌&&◌, ◌==◌, List, [], ◌∷◌, ◌++◌, IsTrue}
use Rattle.std.specs.List.{list_any}
use Rattle.qf_base.specs.Values.{Bounds}
use Rattle.qf_lin.specs.declared.inequality.System.{System}
use Rattle.qf_lin.specs.declared.step.Step.{Step}
use Rattle.qf_lin.specs.declared.step.Step.TheVariants.{Empty}
use Rattle.qf_lin.specs.Inequalities.{is_empty}
use Rattle.qf_lin.specs.Steps.{LeadsTo, ends_empty, case_zero, case_one}

abbrev pub IsSelector : System → ℕ → Type 0
IsSelector system var = IsTrue (list_any (λ s. s == var) system.selectors)

-- steps were added that lead from these bounds to empty ones, and then the step that says so
abbrev pub Closes : System → Bounds → List Step → List Step → Type 0
Closes system bounds old_steps new_steps =
    (added : List Step) × (ended : Bounds) × (new_steps ≡ old_steps ++ (added ++ Empty ∷ [])) × LeadsTo system bounds added ended × IsTrue (is_empty ended)

-- both cases of the selector end empty
abbrev pub both_end : System → Bounds → ℕ → Bool
both_end system bounds var = ends_empty system.inequalities (case_zero bounds var) && ends_empty system.inequalities (case_one bounds var)

-- right tight steps lead from bounds to bounds, and these steps of the list come after them
abbrev pub TakesTo : System → Bounds → List Step → List Step → Bounds → Type 0
TakesTo system bounds steps rest after = (taken : List Step) × (steps ≡ taken ++ rest) × LeadsTo system bounds taken after
