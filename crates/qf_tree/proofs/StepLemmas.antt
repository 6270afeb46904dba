-- A tight step whose numbers exist is right exactly where its row gives its bound.
use Rattle.std.proofs.Common.{◌≡◌, ℕ, ℤ, ◌-◌, ◌<◌, ◌≤◌, Bool, true, false, cond, List, length, slice_get, Some, arith, refl, sym}
use Rattle.std.proofs.lemmas.Bool.{lt-ltb, le-leb, ne_eqb}
use Rattle.qf_base.specs.Values.{Bounds, IsWithin}
use Rattle.qf_base.specs.declared.names.Bound.{Bound}
use Rattle.qf_lin.specs.declared.inequality.Inequality.{Inequality}
use Rattle.qf_lin.specs.declared.inequality.System.{System}
use Rattle.qf_lin.specs.Inequalities.{is_empty, AllHold}
use Rattle.qf_lin.specs.declared.step.Step.{Step}
use Rattle.qf_lin.specs.declared.step.Step.TheVariants.{Tight, Empty, Case}
use Rattle.qf_lin.proofs.Soundness.{tight_step_keeps}
use Rattle.qf_tree.specs.Steps.{step_is_right, bounds_after}
use Rattle.qf_lin.specs.Steps.{row_gives, tight_step_is_right}

pub tight_step_at : (system : System) (bounds : Bounds) (n var : ℕ) (bound : Bound) (row : Inequality) → is_empty bounds ≡ false → 0 < var → var ≤ length bounds → 0 < n → n ≤ length system.inequalities → slice_get system.inequalities (n - 1) ≡ Some row → row_gives row bounds var bound ≡ tight_step_is_right system bounds n var bound
tight_step_at system bounds n var bound row e v1 v2 n1 n2 r =
    let a = lt-ltb 0 var v1 in
    let b = le-leb var (length bounds) v2 in
    let c = ne_eqb 0 n (λ z. absurd (omega arith)) in
    rw (e, a, b, c, r) refl

kept_step : (system : System) (bounds : Bounds) (step : Step) (values : List ℤ) → AllHold system.inequalities values → IsWithin values bounds → (flag : Bool) → step_is_right system bounds step ≡ flag → IsWithin values (cond flag (bounds_after bounds step) bounds)
kept_step system bounds step values all w false e = w
kept_step system bounds (Tight n var bound) values all w true e = tight_step_keeps system values bounds n var bound e all w
kept_step system bounds Empty values all w true e = cc
kept_step system bounds (Case var) values all w true e = cc

-- what a step leaves of the bounds loses no values that satisfy the system
pub step_keeps : (system : System) (bounds after : Bounds) (step : Step) (result : Bool) → result ≡ step_is_right system bounds step → after ≡ cond result (bounds_after bounds step) bounds → (values : List ℤ) → AllHold system.inequalities values → IsWithin values bounds → IsWithin values after
step_keeps system bounds after step result r b values all w =
    rw b (kept_step system bounds step values all w result (sym r))
