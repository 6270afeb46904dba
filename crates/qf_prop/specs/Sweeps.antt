-- What a sweep needs, and what its steps say.
use Rattle.std.specs.Prelude.{◌≡◌, ◌≢◌, ℕ, ◌+◌, ◌-◌, ◌<◌, ◌≤◌, false, cond, nat_lt, List, [], ◌++◌, length, slice_index_or, ℤ, pos, ◌*ℤ◌, int_lt}
use Rattle.qf_base.specs.Values.{Bounds, Term, interval_of_var}
use Rattle.qf_lin.specs.declared.inequality.Inequality.{Inequality}
use Rattle.qf_lin.specs.declared.inequality.System.{System}
use Rattle.qf_lin.specs.declared.step.Step.{Step}
use Rattle.qf_lin.specs.Inequalities.{IsWellFormed, factor_of, is_empty}
use Rattle.qf_lin.specs.Steps.{LeadsTo}
use Rattle.qf_tree.specs.Steps.{RowsFit}
use Rattle.qf_trail.specs.Trails.{Marked}

-- the bounds are those of the system's variables, and where they are not empty the inequalities can be used there
pub record Fits (system : System) (bounds : Bounds) : Type 0 where
  pub vars : length bounds ≡ system.vars
  pub formed : IsWellFormed system
  pub usable : is_empty bounds ≡ false → RowsFit system bounds

-- steps were added, and they lead from the bounds before to those after; the marks stay
abbrev pub Leads : System → Marked → List Step → Marked → List Step → Type 0
Leads system old old_steps new new_steps =
    (added : List Step) × (new_steps ≡ old_steps ++ added) × LeadsTo system old.bounds added new.bounds × (new ≡ record old { bounds = new.bounds })

abbrev pub no_row : Inequality
no_row = record { terms = []; least = pos 0 }

-- inequality number n, from 1
abbrev pub row_at : List Inequality → ℕ → Inequality
row_at rows n = slice_index_or rows (n - 1) no_row

-- the variable exists and is in the row
abbrev pub NamesFactor : Inequality → ℕ → ℕ → Type 0
NamesFactor row var vars = (0 < var) × (var ≤ vars) × (factor_of row.terms var ≢ pos 0)

-- the number of the inequality at a turn: from the first to the last, and then back
abbrev pub number_at : ℕ → ℕ → ℕ
number_at turn rows = cond (nat_lt turn rows) (turn + 1) (rows + rows - turn)

-- the least value of a term
abbrev pub least_term : Bounds → Term → ℤ
least_term bounds t =
    cond (int_lt t.0 (pos 0)) (t.0 *ℤ (interval_of_var bounds t.1).1) (t.0 *ℤ (interval_of_var bounds t.1).0)
