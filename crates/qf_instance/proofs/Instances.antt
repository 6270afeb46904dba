-- A problem has one instance.
use Rattle.std.proofs.Common.{◌≡◌, ◌∙◌, ap, sym, subst, refl, inl, inr, ℕ, ◌-◌, ◌≤◌, nat_le, Bool, true, false, List, length, arith}
use Rattle.std.proofs.Math.Path.{fun_ext}
use Rattle.std.specs.Bool.{Decides}
use Rattle.std.proofs.lemmas.Bool.{and_parts, and_from, cases_lt, false≢true}
use Rattle.std.proofs.lemmas.Bool.Decides.{nat_tests}
use Rattle.std.proofs.lemmas.List.{get_or_past}
use Rattle.qf_goal.specs.Case.{Case, goal_at}
use Rattle.qf_goal.specs.SeedPlaces.{case_seeds}
use Rattle.qf_goal.specs.SoundCase.{IsSoundCase}
use Rattle.qf_impact.proofs.Ranges.{plan-reaches}
use Rattle.qf_slice.specs.Marks.{mark_at, AreNeeded}
use Rattle.qf_slice.specs.RootBox.{IsNeeded}
use Rattle.qf_slice.proofs.Numbers.{needed-reaches}
use Rattle.qf_slice.proofs.Slices.{root-boxes-equal}
use Rattle.qf_tree.specs.Certificates.{Instance, IsValid}
use Rattle.qf_tree.specs.Lean.{IsLean}
use Rattle.qf_instance.specs.Instances.{system_or, hull_or, instance_of, is_marked}
use Rattle.qf_instance.specs.Leanness.{aims_of, LeannessIsOne}
use Rattle.qf_instance.specs.Laws.{InstancesExist, MarksMakeInstances, InstancesAreOne, RowsAreOfTheInstance}

pub exist : InstancesExist
exist case root params is needed = record { root = is; needed = needed; is = refl }

-- parameters that are needed have numbers
marked_is : (case : Case) (marks : List Bool) → IsSoundCase case → AreNeeded case.plan.statements (case_seeds case) marks → length marks ≡ length case.plan.olds → (k : ℕ) → Decides (is_marked marks k) (IsNeeded case k)
marked_is case marks sound are same k = (
  λ there.
      let parts = and_parts (nat_le 1 k) (mark_at marks (k - 1)) there in
      let low : 1 ≤ k = grind (arith, nat_tests) in
      elim (cases_lt (k - 1) (length marks)) [
        | inl inside ↦ (are k low (omega (arith, low, inside))).0 parts.1
        | inr past ↦ absurd (false≢true (sym (get_or_past marks (k - 1) false past) ∙ parts.1))
      ],
  λ needed.
      let found = needed-reaches case.plan.statements (case_seeds case) k needed in
      let range = plan-reaches case.plan sound.plan k found.0 found.1 in
      let low = range.0 in
      let one : nat_le 1 k ≡ true = grind (arith, nat_tests) in
      and_from (nat_le 1 k) (mark_at marks (k - 1)) one ((are k low (omega (arith, range.1, same))).1 needed),
)

pub marks_make : MarksMakeInstances
marks_make case root marks sound is are same = record { root = is; needed = marked_is case marks sound are same; is = refl }

-- two tests of one fact
same_test : (a b : Bool) (P : Type 0) → Decides a P → Decides b P → a ≡ b
same_test true b P x y = sym (y.1 (x.0 refl))
same_test false true P x y = x.1 (y.0 refl)
same_test false false P x y = refl

pub one : InstancesAreOne
one case a b x y =
    let tests : a.is_needed ≡ b.is_needed = fun_ext (λ (k : ℕ). same_test (a.is_needed k) (b.is_needed k) (IsNeeded case k) (x.needed k) (y.needed k)) in
    x.is ∙ ap (λ root. instance_of case root a.is_needed) (root-boxes-equal case a.root b.root x.root y.root) ∙ ap (λ test. instance_of case b.root test) tests ∙ sym y.is

pub rows_are_its : RowsAreOfTheInstance
rows_are_its case inst row made x is = (
  ap (λ (i : Instance). i.system row) x.is ∙ ap (system_or inst.root (goal_at case row)) is.coded ∙ sym is.system,
  λ region. ap (λ (i : Instance). i.hull row region) x.is ∙ ap (hull_or region) is.coded,
)

pub leanness_is_one : LeannessIsOne
leanness_is_one case inst region cert x = (
  (λ v. subst (λ i. IsValid i region cert) (one case v.inst inst v.is_instance x) v.valid, λ valid. record { inst = inst; is_instance = x; valid = valid }),
  (λ l. subst (λ i. IsLean i (aims_of case) region cert) (one case l.inst inst l.is_instance x) l.lean, λ lean. record { inst = inst; is_instance = x; lean = lean }),
)
