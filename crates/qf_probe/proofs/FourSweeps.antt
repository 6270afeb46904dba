-- Sweeps in turn, counted down.
use Rattle.std.specs.Prelude.{◌≡◌, ℕ, suc, zero, ◌-◌, ◌<◌, ◌≤◌, Bool, true, false, List, [], ◌∷◌, ◌++◌, length, reverse, ◌+◌}
use Rattle.std.proofs.Common.{refl, ap, ◌∙◌, arith}
use Rattle.std.proofs.lemmas.List.{length-append}
use Rattle.qf_base.specs.Values.{Bounds}
use Rattle.qf_lin.specs.declared.inequality.Inequality.{Inequality}
use Rattle.qf_lin.specs.declared.inequality.System.{System}
use Rattle.qf_lin.specs.declared.step.Step.{Step}
use Rattle.qf_lin.specs.Inequalities.{is_empty, swept}
use Rattle.qf_lin.specs.Steps.{LeadsTo}
use Rattle.qf_trail.specs.Trails.{Marked}
use Rattle.qf_prop.specs.Sweeps.{Leads}
use Rattle.qf_prop.proofs.Rows.{fold_rows_stay}

-- the bounds after so many sweeps more
abbrev pub swept_times : ℕ → List Inequality → Bounds → Bounds
swept_times zero rows bounds = bounds
swept_times (suc n) rows bounds = swept_times n rows (swept rows bounds)

pub one_less : (n : ℕ) (rows : List Inequality) (bounds : Bounds) → n < 4 → swept_times (4 - n) rows bounds ≡ swept_times (4 - (n + 1)) rows (swept rows bounds)
one_less n rows bounds h = rw (less n h) refl
  where
    less : (n : ℕ) → n < 4 → 4 - n ≡ suc (4 - (n + 1))
    less n h = omega arith

pub none_left : (n : ℕ) (rows : List Inequality) (bounds : Bounds) → 4 ≤ n → swept_times (4 - n) rows bounds ≡ bounds
none_left n rows bounds h = rw (none n h) refl
  where
    none : (n : ℕ) → 4 ≤ n → 4 - n ≡ 0
    none n h = omega arith

pub not_true : (b : Bool) → (b ≡ true → ⊥) → b ≡ false
not_true true h = absurd (h refl)
not_true false h = refl

-- empty bounds stay, and so do those that one sweep leaves as they are
pub times_same : (n : ℕ) (rows : List Inequality) (bounds : Bounds) → swept rows bounds ≡ bounds → swept_times n rows bounds ≡ bounds
times_same zero rows bounds same = refl
times_same (suc n) rows bounds same = ap (swept_times n rows) same ∙ times_same n rows bounds same

pub empty_stays : (n : ℕ) (rows : List Inequality) (bounds : Bounds) → is_empty bounds ≡ true → is_empty (swept_times n rows bounds) ≡ true
empty_stays n rows bounds e = ap is_empty (times_same n rows bounds (fold_rows_stay (rows ++ reverse rows) bounds e)) ∙ e

-- without a step the bounds stay
pub no_steps_stay : (system : System) (old new : Marked) (s t : List Step) → Leads system old s new t → length t ≡ length s → new.bounds ≡ old.bounds
no_steps_stay system old new s t l same = stay l.0 l.1 l.2
  where
    stay : (added : List Step) → t ≡ s ++ added → LeadsTo system old.bounds added new.bounds → new.bounds ≡ old.bounds
    stay [] e l = l
    stay (x ∷ added) e l = absurd (omega (arith, ap length e, length-append s (x ∷ added), same))
