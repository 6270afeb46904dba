-- Steps that are applied one after another, and what they refute.
use Rattle.std.specs.Prelude.{◌≡◌, ℕ, suc, ◌+◌, ◌<◌, ◌≤◌, true, false, cond, ◌==◌, List, [], ◌∷◌, ◌++◌, length, drop, IsTrue, All, Option, Some, None, Result, Ok, Err, IfOk, IfSome}
use Rattle.std.specs.List.{list_any}
use Rattle.std.proofs.Common.{refl, sym, ap, ◌∙◌, subst, get_or, add-one, drop-cons, append_assoc, eqb-true, inl, inr}
use Rattle.std.proofs.lemmas.Bool.{or_cases, lt-ltb}
use Rattle.std.proofs.lemmas.List.Elements.{All-head, All-tail}
use Rattle.qf_base.specs.declared.names.Bound.{Bound}
use Rattle.qf_base.specs.Values.{Bounds}
use Rattle.qf_lin.specs.declared.inequality.System.{System}
use Rattle.qf_lin.specs.declared.step.Step.{Step}
use Rattle.qf_lin.specs.declared.step.Step.TheVariants.{Tight, Empty, Case}
use Rattle.qf_lin.specs.Inequalities.{with_bound, is_empty}
use Rattle.qf_lin.specs.Steps.{tight_step_is_right, row_gives_at, numbered, is_number_of, case_zero, case_one, case_is_right}
use Rattle.qf_tree.specs.Steps.{step_is_right, bounds_after}
use Rattle.qf_tree.specs.Refutations.{Refutes, by_empty, by_case}
use Rattle.qf_tree.proofs.Soundness.{refutes_after}
use Rattle.qf_prop.specs.Sweeps.{Fits}
use Rattle.qf_prop.proofs.Derivations.{LeadsTo-append, fits_after, three_parts, number_exists}
use Rattle.qf_probe.specs.Probes.{TakesTo, IsSelector}

-- ---- tight steps

pub takes_none : (system : System) (bounds : Bounds) (steps : List Step) → TakesTo system bounds steps steps bounds
takes_none system bounds steps = ([], refl, refl)

pub fits_taken : (system : System) (bounds after : Bounds) (steps rest : List Step) → TakesTo system bounds steps rest after → Fits system bounds → Fits system after
fits_taken system bounds after steps rest t fits = fits_after system t.0 bounds after t.2 fits

-- a tight step that was taken: its variable exists, and the bounds have its bound
pub step_exists : (system : System) (bounds after : Bounds) (n var : ℕ) (bound : Bound) (s : Step) → s ≡ Tight n var bound → true ≡ step_is_right system bounds s → after ≡ bounds_after bounds s → (0 < var) × (var ≤ length bounds) × (after ≡ with_bound bounds var bound) × IsTrue (tight_step_is_right system bounds n var bound)
step_exists system bounds after n var bound s is right here =
    let ok : tight_step_is_right system bounds n var bound ≡ true = sym (right ∙ ap (step_is_right system bounds) is) in
    let parts = three_parts (cond (is_empty bounds) false true) (is_number_of var (length bounds)) (row_gives_at (numbered system.inequalities n) bounds var bound) ok in
    let exists = number_exists var (length bounds) parts.1 in
    (exists.0, exists.1, here ∙ ap (bounds_after bounds) is, ok)

pub next_is : (steps : List Step) (at : ℕ) (d s : Step) → at < length steps → get_or steps at d ≡ s → drop at steps ≡ s ∷ drop (at + 1) steps
next_is steps at d s within is = rw (add-one, drop-cons steps at d, is) refl

pub takes_more : (system : System) (start bounds after : Bounds) (steps : List Step) (from at n var : ℕ) (bound : Bound) (d : Step) → at < length steps → get_or steps at d ≡ Tight n var bound → IsTrue (tight_step_is_right system bounds n var bound) → after ≡ with_bound bounds var bound → TakesTo system start (drop from steps) (drop at steps) bounds → TakesTo system start (drop from steps) (drop (at + 1) steps) after
takes_more system start bounds after steps from at n var bound d within is right here t =
    let first : drop at steps ≡ Tight n var bound ∷ drop (at + 1) steps = next_is steps at d (Tight n var bound) within is in (
      t.0 ++ Tight n var bound ∷ [],
      t.1 ∙ (ap (λ (rest : List Step). t.0 ++ rest) first ∙ sym (append_assoc t.0 (Tight n var bound ∷ []) (drop (at + 1) steps))),
      LeadsTo-append system start bounds after t.0 (Tight n var bound ∷ []) t.2 (right, here),
    )

-- ---- the end of a refutation

pub ends_here : (system : System) (bounds after : Bounds) (depth : ℕ) (steps : List Step) (from at : ℕ) (d : Step) → TakesTo system bounds (drop from steps) (drop at steps) after → at < length steps → get_or steps at d ≡ Empty → is_empty after ≡ true → Refutes system bounds depth (drop from steps) (drop (at + 1) steps)
ends_here system bounds after depth steps from at d t within is e =
    let rest = drop (at + 1) steps in
    let whole : t.0 ++ (Empty ∷ rest) ≡ drop from steps = sym (t.1 ∙ ap (λ (more : List Step). t.0 ++ more) (next_is steps at d Empty within is)) in
    subst (λ (all : List Step). Refutes system bounds depth all rest) whole (refutes_after system depth (Empty ∷ rest) rest bounds after t.0 t.2 (by_empty e))

pub splits_here : (system : System) (bounds after : Bounds) (depth : ℕ) (steps : List Step) (from at middle end var : ℕ) (d : Step) → TakesTo system bounds (drop from steps) (drop at steps) after → at < length steps → get_or steps at d ≡ Case var → IsSelector system var → depth < 8 → Refutes system (case_zero after var) (depth + 1) (drop (at + 1) steps) (drop middle steps) → Refutes system (case_one after var) (depth + 1) (drop middle steps) (drop end steps) → Refutes system bounds depth (drop from steps) (drop end steps)
splits_here system bounds after depth steps from at middle end var d t within is selector shallow zero_case one_case =
    let rest = drop end steps in
    let more = drop (at + 1) steps in
    let right : IsTrue (case_is_right system var depth) = rw (selector, lt-ltb depth 8 shallow) refl in
    let deep : depth + 1 ≡ suc depth = add-one depth in
    let split : Refutes system after depth (Case var ∷ more) rest =
    by_case right
    (subst (λ n. Refutes system (case_zero after var) n more (drop middle steps)) deep zero_case)
    (subst (λ n. Refutes system (case_one after var) n (drop middle steps) rest) deep one_case)
    in
    let whole : t.0 ++ (Case var ∷ more) ≡ drop from steps = sym (t.1 ∙ ap (λ (m : List Step). t.0 ++ m) (next_is steps at d (Case var) within is)) in
    subst (λ (all : List Step). Refutes system bounds depth all rest) whole (refutes_after system depth (Case var ∷ more) rest bounds after t.0 t.2 split)

-- ---- what holds of a place that was found

pub found_by : {E : Type 0} (r : Result (Option ℕ) E) (P Q : ℕ → Type 0) → ((place : ℕ) → P place → Q place) → IfOk r (λ found. IfSome found P) → IfOk r (λ found. IfSome found Q)
found_by (Ok (Some place)) P Q f h = f place h
found_by (Ok None) P Q f h = tt
found_by (Err e) P Q f h = tt

-- ---- selectors exist

selector_in : (selectors : List ℕ) (vars var : ℕ) → All (λ (s : ℕ). (0 < s) × (s ≤ vars)) selectors → IsTrue (list_any (λ s. s == var) selectors) → (0 < var) × (var ≤ vars)
selector_in [] vars var h any = cc
selector_in (s ∷ selectors) vars var h any =
    elim (or_cases (s == var) (list_any (λ s. s == var) selectors) any) [
      | inl same ↦ subst (λ n. (0 < n) × (n ≤ vars)) (eqb-true s var same) (All-head (λ (s : ℕ). (0 < s) × (s ≤ vars)) s selectors h)
      | inr more ↦ selector_in selectors vars var (All-tail (λ (s : ℕ). (0 < s) × (s ≤ vars)) s selectors h) more
    ]

pub selector_exists : (system : System) (bounds : Bounds) (var : ℕ) → Fits system bounds → IsSelector system var → (0 < var) × (var ≤ length bounds)
selector_exists system bounds var fits selector =
    subst (λ vars. (0 < var) × (var ≤ vars)) (sym fits.vars) (selector_in system.selectors system.vars var fits.formed.selectors selector)
