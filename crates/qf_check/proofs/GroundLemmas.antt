-- What the problem, its root box and a row's system say of a box in the root box.
use Rattle.std.proofs.Common.{◌≡◌, ◌∙◌, ap, sym, subst, refl, ℕ, true, List, [], ◌∷◌, length, Option, Some, arith, ℤ, pos, IfSome}
use Rattle.std.specs.List.Sorted.{IsNonDecreasing}
use Rattle.qf_base.specs.Values.{Bounds, is_in}
use Rattle.qf_base.specs.declared.names.RowName.{RowName}
use Rattle.qf_base.proofs.BoxLaws.{In-is_in, length-In}
use Rattle.qf_circuit.specs.Circuits.{hull_of, hull_of_def}
use Rattle.qf_circuit.proofs.Built.{built_length}
use Rattle.qf_rows.specs.Encoding.{selectors_of}
use Rattle.qf_goal.specs.Asked.{row_exists}
use Rattle.qf_goal.specs.Case.{Case, goal_at}
use Rattle.qf_goal.specs.SoundCase.{IsSoundCase}
use Rattle.qf_slice.specs.RootBox.{IsRootBox}
use Rattle.qf_encode.specs.Lives.{BoxIn}
use Rattle.qf_lin.specs.declared.step.Step.{Step}
use Rattle.qf_lin.specs.declared.inequality.System.{System}
use Rattle.qf_tree.specs.declared.tree.Node.TheVariants.{Refuted}
use Rattle.qf_tree.specs.Refutations.{first_wrong_step, one_later}
use Rattle.qf_tree.specs.Certificates.{node_fault}
use Rattle.qf_instance.specs.declared.row.RowSystem.{RowSystem}
use Rattle.qf_instance.specs.Instances.{case_circuit, system_or, hull_or}
use Rattle.qf_instance.specs.RowSystems.{IsRowSystem}
use Rattle.qf_check.specs.declared.grounds.Grounds.{Grounds}
use Rattle.qf_base.specs.declared.names.RowName.TheVariants.{Start, Inserted}
use Rattle.qf_instance.specs.declared.made.Made.{Made}
use Rattle.qf_instance.specs.RowsMade.{AreMade, made_of}
use Rattle.qf_check.specs.Undoing.{AreVars}
use Rattle.qf_check.proofs.SelectorLemmas.{selectors_rise}
use Rattle.qf_check.specs.Grounding.{instance, FitsBox}

-- ---- lengths

pub olds_long : (case : Case) (root region : Bounds) → IsSoundCase case → IsRootBox case root → BoxIn region root → (length case.plan.olds ≡ length region) × (length region ≡ length root)
olds_long case root region sound is box =
    let domains = length-In case.domains.region case.plan.olds sound.inside in
    let same = is.len in
    let inside = box.same_length in
    (omega (arith, domains, same, inside), inside)

-- the length of a stated point that is right
pub stated_long : (case : Case) (p : List ℤ) → IsSoundCase case → is_in case.domains.region p ≡ true → length case.plan.olds ≡ length p
stated_long case p sound inside =
    omega (arith, length-In case.domains.region p (In-is_in case.domains.region p inside), length-In case.domains.region case.plan.olds sound.inside)

-- ---- a row's system

pub fits_box : (case : Case) (root region : Bounds) (row : RowName) (made : RowSystem) → IsRowSystem case root row made → BoxIn region root → FitsBox made region
fits_box case root region row made is box =
    let circuit = made.coded.circuit in
    let long : length (hull_of region circuit) ≡ length circuit = built_length (hull_of_def region) (pos 0, pos 0) [] circuit ∙ omega arith in
    let vars : made.system.vars ≡ length circuit = ap (λ (s : System). s.vars) is.system in
    let selectors : made.system.selectors ≡ selectors_of circuit = ap (λ (s : System). s.selectors) is.system in
    record {
      hulls = (is.small region box).hulls;
      selectors = subst (λ n. AreVars n made.system.selectors) (vars ∙ sym long) is.well_formed.selectors;
      rising = subst IsNonDecreasing (sym selectors) (selectors_rise 1 circuit);
      fits = is.fits region box;
    }

if_there : {X : Type 0} (P : X → Type 0) (o : Option X) (x : X) → o ≡ Some x → IfSome o P → P x
if_there P o x e h = rw e at h

pub made_is : (case : Case) (root : Bounds) (m : Made) (row : RowName) (made : RowSystem) → AreMade case root m → made_of m row ≡ Some made → IsRowSystem case root row made
made_is case root m (Start number) made are e = if_there (IsRowSystem case root (Start number)) (made_of m (Start number)) made e (are.starts number)
made_is case root m (Inserted number) made are e =
    if_there (IsRowSystem case root (Inserted number)) (made_of m (Inserted number)) made e (are.inserted number)

pub refuted_is : (g : Grounds) (region : Bounds) (row : RowName) (steps : List Step) (made : RowSystem) (wrong line : Option ℕ) → IsRowSystem g.problem.now g.root row made → row_exists g.problem.now.plan row ≡ true → wrong ≡ first_wrong_step made.system ((hull_of region made.coded.circuit, 0) ∷ []) steps → line ≡ one_later wrong → line ≡ node_fault (instance g) g.answer.now (region, Refuted row steps)
refuted_is g region row steps made wrong line is exists w l =
    let system : system_or g.root (goal_at g.problem.now row) (case_circuit g.problem.now row) ≡ made.system = ap (system_or g.root (goal_at g.problem.now row)) is.coded ∙ sym is.system in
    let hull : hull_or region (case_circuit g.problem.now row) ≡ hull_of region made.coded.circuit = ap (hull_or region) is.coded in
    l ∙ ap one_later w ∙ rw (exists, system, hull) refl
