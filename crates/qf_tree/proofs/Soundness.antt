-- Steps that refute bounds show that no values within the bounds satisfy the system.
use Rattle.std.proofs.Common.{◌≡◌, ℕ, suc, Bool, true, false, cond, ◌&&◌, List, [], ◌∷◌, Option, Some, None, ℤ, refl, inl, inr, subst, ◌++◌, append_assoc, append-nil}
use Rattle.std.proofs.lemmas.Bool.{and_parts, and_from}
use Rattle.qf_lin.specs.declared.inequality.System.{System}
use Rattle.qf_lin.specs.declared.step.Step.{Step}
use Rattle.qf_lin.specs.declared.step.Step.TheVariants.{Tight, Empty, Case}
use Rattle.qf_base.specs.Values.{Bounds, IsWithin}
use Rattle.qf_lin.specs.Inequalities.{AllHold, with_bound, is_empty}
use Rattle.qf_lin.specs.Steps.{case_zero, case_one, tight_step_is_right, case_is_right, LeadsTo}
use Rattle.qf_lin.proofs.Soundness.{empty_holds_none, tight_step_keeps, cases_cover}
use Rattle.qf_tree.specs.Refutations.{Refutes, by_empty, by_tight, by_case, IsRefutation, Pending, keeps_rule, pending_after, refutes_in_turn, first_wrong_step, one_later, ProbesRefute}

pub refutes_sound : {system : System} {bounds : Bounds} {depth : ℕ} {steps rest : List Step} → Refutes system bounds depth steps rest → (values : List ℤ) → AllHold system.inequalities values → IsWithin values bounds → ⊥
refutes_sound {bounds} (by_empty e) values all w = empty_holds_none values bounds e w
refutes_sound {system} {bounds} (by_tight {n} {var} {bound} t more) values all w =
    refutes_sound more values all (tight_step_keeps system values bounds n var bound t all w)
refutes_sound {bounds} (by_case {var} t zero_case one_case) values all w =
    elim (cases_cover values bounds var w) [
      | inl h ↦ refutes_sound zero_case values all h
      | inr h ↦ refutes_sound one_case values all h
    ]

-- ---- the same line by line

abbrev pub RefutesAll : System → Pending → List Step → Type 0
RefutesAll system [] steps = steps ≡ []
RefutesAll system (p ∷ ps) steps = (rest : List Step) × Refutes system p.0 p.1 steps rest × RefutesAll system ps rest

pub from_turns : (system : System) (ps : Pending) (steps : List Step) → refutes_in_turn system ps steps ≡ true → RefutesAll system ps steps
from_turns system [] [] e = refl
from_turns system [] (step ∷ steps) e = cc
from_turns system (p ∷ ps) [] e = cc
from_turns system (p ∷ ps) (Empty ∷ steps) e =
    let parts = and_parts (is_empty p.0) (refutes_in_turn system ps steps) e in
    (steps, by_empty parts.0, from_turns system ps steps parts.1)
from_turns system (p ∷ ps) (Tight n var bound ∷ steps) e =
    let parts = and_parts (tight_step_is_right system p.0 n var bound) (refutes_in_turn system (pending_after (p ∷ ps) (Tight n var bound)) steps) e in
    let more = from_turns system ((with_bound p.0 var bound, p.1) ∷ ps) steps parts.1 in
    (more.0, by_tight parts.0 more.1, more.2)
from_turns system (p ∷ ps) (Case var ∷ steps) e =
    let parts = and_parts (case_is_right system var p.1) (refutes_in_turn system (pending_after (p ∷ ps) (Case var)) steps) e in
    let more = from_turns system ((case_zero p.0 var, suc p.1) ∷ (case_one p.0 var, suc p.1) ∷ ps) steps parts.1 in
    (more.2.0, by_case parts.0 more.1 more.2.1, more.2.2)

pub to_turns : {system : System} {bounds : Bounds} {depth : ℕ} {steps rest : List Step} → Refutes system bounds depth steps rest → (ps : Pending) → refutes_in_turn system ps rest ≡ true → refutes_in_turn system ((bounds, depth) ∷ ps) steps ≡ true
to_turns {system} {bounds} (by_empty {rest} e) ps h = and_from (is_empty bounds) (refutes_in_turn system ps rest) e h
to_turns {system} {bounds} {depth} (by_tight {n} {var} {bound} {steps} t more) ps h =
    and_from (tight_step_is_right system bounds n var bound) (refutes_in_turn system ((with_bound bounds var bound, depth) ∷ ps) steps) t (to_turns more ps h)
to_turns {system} {bounds} {depth} (by_case {var} {steps} t zero_case one_case) ps h =
    and_from (case_is_right system var depth) (refutes_in_turn system ((case_zero bounds var, suc depth) ∷ (case_one bounds var, suc depth) ∷ ps) steps) t (to_turns zero_case ((case_one bounds var, suc depth) ∷ ps) (to_turns one_case ps h))

pub one_of_all : (system : System) (bounds : Bounds) (steps : List Step) → RefutesAll system ((bounds, 0) ∷ []) steps → IsRefutation system bounds steps
one_of_all system bounds steps h = subst (λ rest. Refutes system bounds 0 steps rest) h.2 h.1

wrong_by : (flag : Bool) (o : Option ℕ) (b : Bool) → (o ≡ None → b ≡ true) → cond flag (one_later o) (Some 0) ≡ None → (flag && b) ≡ true
wrong_by true None b h e = h refl
wrong_by true (Some n) b h e = cc
wrong_by false o b h e = cc

-- where no step is wrong, the steps refute in turn
pub no_wrong_step : (system : System) (ps : Pending) (steps : List Step) → first_wrong_step system ps steps ≡ None → refutes_in_turn system ps steps ≡ true
no_wrong_step system [] [] e = refl
no_wrong_step system (p ∷ ps) [] e = cc
no_wrong_step system [] (step ∷ steps) e = cc
no_wrong_step system (p ∷ ps) (step ∷ steps) e =
    wrong_by (keeps_rule system (p ∷ ps) step) (first_wrong_step system (pending_after (p ∷ ps) step) steps) (refutes_in_turn system (pending_after (p ∷ ps) step) steps) (no_wrong_step system (pending_after (p ∷ ps) step) steps) e

-- ---- steps on the way

pub refutes_after : (system : System) (depth : ℕ) (more rest : List Step) (bounds after : Bounds) (steps : List Step) → LeadsTo system bounds steps after → Refutes system after depth more rest → Refutes system bounds depth (steps ++ more) rest
refutes_after system depth more rest bounds after [] l r = rw (← l) r
refutes_after system depth more rest bounds after (Tight n var bound ∷ steps) l r =
    by_tight l.0 (refutes_after system depth more rest (with_bound bounds var bound) after steps l.1 r)
refutes_after system depth more rest bounds after (Empty ∷ steps) l r = absurd l
refutes_after system depth more rest bounds after (Case var ∷ steps) l r = absurd l

pub leads_and_ends : (system : System) (depth : ℕ) (rest : List Step) (bounds after : Bounds) (steps : List Step) → LeadsTo system bounds steps after → is_empty after ≡ true → Refutes system bounds depth ((steps ++ Empty ∷ []) ++ rest) rest
leads_and_ends system depth rest bounds after steps l e =
    rw append_assoc (refutes_after system depth (Empty ∷ rest) rest bounds after steps l (by_empty e))

pub probes_refute : ProbesRefute
probes_refute system bounds var left right zero_end one_end c l0 e0 l1 e1 =
    let second : Refutes system (case_one bounds var) 1 (right ++ Empty ∷ []) [] = rw append-nil at (leads_and_ends system 1 [] (case_one bounds var) one_end right l1 e1) in
    by_case c (leads_and_ends system 1 (right ++ Empty ∷ []) (case_zero bounds var) zero_end left l0 e0) second
