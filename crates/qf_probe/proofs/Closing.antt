-- Steps that end empty refute, and empty bounds stay empty.
use Rattle.std.specs.Prelude.{◌≡◌, ℕ, Bool, true, false, ◌&&◌, pos, ◌≤ℤ◌, List, [], ◌∷◌, ◌++◌, reverse, IsTrue}
use Rattle.std.proofs.Common.{refl, sym, ap, ◌∙◌}
use Rattle.std.proofs.lemmas.List.{append-nil}
use Rattle.std.proofs.lemmas.Bool.{false≢true}
use Rattle.qf_base.specs.declared.names.Bound.TheVariants.{Low, High}
use Rattle.qf_base.specs.Values.{Bounds, interval_of_var}
use Rattle.qf_base.proofs.Integers.{int_lt_no}
use Rattle.qf_lin.specs.declared.inequality.System.{System}
use Rattle.qf_lin.specs.declared.step.Step.{Step}
use Rattle.qf_lin.specs.declared.step.Step.TheVariants.{Case}
use Rattle.qf_lin.specs.declared.inequality.Inequality.{Inequality}
use Rattle.qf_lin.specs.Inequalities.{is_empty, swept}
use Rattle.qf_lin.specs.Steps.{ends_empty, case_zero, case_one, case_is_right}
use Rattle.qf_tree.specs.Refutations.{IsRefutation}
use Rattle.qf_tree.proofs.Soundness.{leads_and_ends, probes_refute}
use Rattle.qf_prop.proofs.Derivations.{with_bound-no_better}
use Rattle.qf_prop.proofs.Rows.{fold_rows_stay}
use Rattle.qf_probe.specs.Probes.{Closes, IsSelector}

pub closes_is_refutation : (system : System) (bounds : Bounds) (steps : List Step) → Closes system bounds [] steps → IsRefutation system bounds steps
closes_is_refutation system bounds steps h =
    let whole = leads_and_ends system 0 [] bounds h.1 h.0 h.3 h.4 in
    rw (h.2) (rw append-nil at whole)

pub cases_are_refutation : (system : System) (bounds : Bounds) (var : ℕ) (middle steps : List Step) → IsSelector system var → Closes system (case_zero bounds var) (Case var ∷ []) middle → Closes system (case_one bounds var) middle steps → IsRefutation system bounds steps
cases_are_refutation system bounds var middle steps selector h k =
    let right : IsTrue (case_is_right system var 0) = rw selector refl in
    rw (k.2, h.2) (probes_refute system bounds var h.0 k.0 h.1 k.1 right h.3 h.4 k.3 k.4)

-- empty bounds stay empty under sweeps
pub nonempty_of : (rows : List Inequality) (bounds : Bounds) → ends_empty rows bounds ≡ false → is_empty bounds ≡ false
nonempty_of rows bounds h =
    elim (is_empty bounds) as (λ b. is_empty bounds ≡ b → b ≡ false) [
      | true ↦ λ e.
          let same : swept rows bounds ≡ bounds = fold_rows_stay (rows ++ reverse rows) bounds e in
          absurd (false≢true (sym h
          ∙ (ap (λ (a : Bounds). is_empty (swept rows (swept rows (swept rows a)))) same
          ∙ (ap (λ (a : Bounds). is_empty (swept rows (swept rows a))) same
          ∙ (ap (λ (a : Bounds). is_empty (swept rows a)) same ∙ (ap is_empty same ∙ e))))))
      | false ↦ λ e. refl
    ] refl

-- ---- a selector that the bounds decide

-- its case 1 has the bounds themselves where it is at least 1, and so has its case 0 where it is at most 0
pub one_same : (bounds : Bounds) (var : ℕ) → pos 1 ≤ℤ (interval_of_var bounds var).0 → case_one bounds var ≡ bounds
one_same bounds var h = with_bound-no_better bounds var (Low (pos 1)) (int_lt_no (interval_of_var bounds var).0 (pos 1) h)

pub zero_same : (bounds : Bounds) (var : ℕ) → (interval_of_var bounds var).1 ≤ℤ pos 0 → case_zero bounds var ≡ bounds
zero_same bounds var h = with_bound-no_better bounds var (High (pos 0)) (int_lt_no (pos 0) (interval_of_var bounds var).1 h)

pub one_open : (rows : List Inequality) (bounds : Bounds) (var : ℕ) → ends_empty rows bounds ≡ false → pos 1 ≤ℤ (interval_of_var bounds var).0 → (ends_empty rows (case_zero bounds var) && ends_empty rows (case_one bounds var)) ≡ false
one_open rows bounds var e h = and_false_right (ends_empty rows (case_zero bounds var)) (ends_empty rows (case_one bounds var)) (ap (ends_empty rows) (one_same bounds var h) ∙ e)
  where
    and_false_right : (a b : Bool) → b ≡ false → (a && b) ≡ false
    and_false_right true b e = e
    and_false_right false b e = refl

pub zero_open : (rows : List Inequality) (bounds : Bounds) (var : ℕ) → ends_empty rows bounds ≡ false → (interval_of_var bounds var).1 ≤ℤ pos 0 → (ends_empty rows (case_zero bounds var) && ends_empty rows (case_one bounds var)) ≡ false
zero_open rows bounds var e h = ap (λ (b : Bool). b && ends_empty rows (case_one bounds var)) (ap (ends_empty rows) (zero_same bounds var h) ∙ e)
