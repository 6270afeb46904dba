-- The rows for which a box is refuted, and the parameters at which it is cut.
use Rattle.std.proofs.Common.{◌≡◌, ◌∙◌, ap, sym, subst, refl, arith, ℕ, ◌-◌, ◌<◌, ℤ, pos, ◌<ℤ◌, Bool, true, false, List, [], length, IfSome, IfNone, IfOk, Result, Ok, Err}
use Rattle.std.specs.declared.option.Option.{Option}
use Rattle.std.specs.declared.option.Option.TheVariants.{Some, None}
use Rattle.std.specs.Bool.{Decides}
use Rattle.std.proofs.lemmas.Int.{ints}
use Rattle.std.proofs.lemmas.Bool.{false≢true}
use Rattle.qf_base.specs.declared.names.RowName.{RowName}
use Rattle.qf_base.specs.declared.names.RowName.TheVariants.{Start, Inserted}
use Rattle.qf_base.specs.Values.{Bounds, interval_at}
use Rattle.qf_lin.specs.declared.inequality.System.{System}
use Rattle.qf_lin.specs.declared.step.Step.{Step}
use Rattle.qf_circuit.specs.Circuits.{hull_of, hull_of_def}
use Rattle.qf_circuit.proofs.Built.{built_length}
use Rattle.qf_tree.specs.Steps.{RowsFit}
use Rattle.qf_ir.specs.Plan.{RowExists}
use Rattle.qf_point.specs.Points.{CanCut}
use Rattle.qf_goal.specs.Case.{Case}
use Rattle.qf_slice.specs.RootBox.{IsNeeded, old_alone}
use Rattle.qf_tree.specs.Refutations.{IsRefutation}
use Rattle.qf_tree.specs.Lines.{StepsFit}
use Rattle.qf_lin.specs.Steps.{is_closable}
use Rattle.qf_prop.specs.Sweeps.{Fits}
use Rattle.qf_base.specs.declared.memory.NoMemory.{NoMemory}
use Rattle.qf_search.specs.Deciding.{IsClosing}
use Rattle.qf_encode.specs.Lives.{BoxIn}
use Rattle.qf_instance.specs.declared.row.RowSystem.{RowSystem}
use Rattle.qf_instance.specs.RowSystems.{IsRowSystem}
use Rattle.qf_instance.proofs.Instances.{rows_are_its}
use Rattle.qf_search.specs.declared.grounds.Grounds.{Grounds}
use Rattle.qf_instance.specs.declared.made.Made.{Made}
use Rattle.qf_instance.specs.RowsMade.{AreMade, made_of}
use Rattle.qf_search.specs.Grounding.{instance, AreGrounds, IsOpenRow}
use Rattle.qf_search.specs.Standing.{RefutesFor}
use Rattle.qf_search.proofs.Exact.{exists_test}

if_there : {X : Type 0} (P : X → Type 0) (o : Option X) (x : X) → o ≡ Some x → IfSome o P → P x
if_there P o x e h = rw e at h

pub made_is : (case : Case) (root : Bounds) (m : Made) (row : RowName) (made : RowSystem) → AreMade case root m → made_of m row ≡ Some made → IsRowSystem case root row made
made_is case root m (Start number) made are e = if_there (IsRowSystem case root (Start number)) (made_of m (Start number)) made e (are.starts number)
made_is case root m (Inserted number) made are e =
    if_there (IsRowSystem case root (Inserted number)) (made_of m (Inserted number)) made e (are.inserted number)

pub refutes_row : (g : Grounds) (region hull : Bounds) (row : RowName) (made : RowSystem) (steps : List Step) → AreGrounds g → RowExists g.problem.now.plan row → IsRowSystem g.problem.now g.root row made → hull ≡ hull_of region made.coded.circuit → IsRefutation made.system hull steps → RefutesFor g.problem.now region row steps
refutes_row g region hull row made steps grounds exists is same refutes =
    let inst = instance g in
    let its = rows_are_its g.problem.now inst row made grounds.is is in
    let over_hull = subst (λ (b : Bounds). IsRefutation made.system b steps) (same ∙ sym (its.1 region)) refutes in
    (inst, grounds.is, (exists_test g.problem.now.plan row exists, subst (λ (s : System). IsRefutation s (inst.hull row region) steps) (sym its.0) over_hull))

-- the row's system can be used at the hull
pub hull_fits : (g : Grounds) (region hull : Bounds) (row : RowName) (made : RowSystem) → BoxIn region g.root → IsRowSystem g.problem.now g.root row made → hull ≡ hull_of region made.coded.circuit → Fits made.system hull
hull_fits g region hull row made box is same =
    let long : length (hull_of region made.coded.circuit) ≡ length made.coded.circuit = built_length (hull_of_def region) (pos 0, pos 0) [] made.coded.circuit ∙ omega arith in
    record {
      vars = ap length same ∙ (long ∙ ap (λ (s : System). s.vars) (sym is.system));
      formed = is.well_formed;
      usable = λ whole. subst (RowsFit made.system) (sym same) (is.fits region box);
    }

-- what was found for the row's system at the hull
pub closing_row : (g : Grounds) (region hull : Bounds) (row : RowName) (made : RowSystem) (found : Result (Option (List Step)) NoMemory) → AreGrounds g → RowExists g.problem.now.plan row → IsRowSystem g.problem.now g.root row made → hull ≡ hull_of region made.coded.circuit → IfOk found (λ o. IfSome o (λ steps. IsRefutation made.system hull steps)) → IfOk found (λ o. IfSome o (λ steps. StepsFit steps)) → IfOk found (λ o. IfSome o (λ steps. IsClosing g.problem.now region row steps))
closing_row g region hull row made (Err fault) grounds exists is same refutes fit = tt
closing_row g region hull row made (Ok None) grounds exists is same refutes fit = tt
closing_row g region hull row made (Ok (Some steps)) grounds exists is same refutes fit = (refutes_row g region hull row made steps grounds exists is same refutes, fit)

pub open_otherwise : (g : Grounds) (region hull : Bounds) (row : RowName) (made : RowSystem) (found : Result (Option (List Step)) NoMemory) → AreGrounds g → IsRowSystem g.problem.now g.root row made → hull ≡ hull_of region made.coded.circuit → IfOk found (λ o. IfNone o (is_closable made.system hull ≡ false)) → IfOk found (λ o. IfNone o (IsOpenRow g region row))
open_otherwise g region hull row made (Err fault) grounds is same none = tt
open_otherwise g region hull row made (Ok (Some steps)) grounds is same none = tt
open_otherwise g region hull row made (Ok None) grounds is same none =
    let its = rows_are_its g.problem.now (instance g) row made grounds.is is in
    ap (λ (s : System). is_closable s ((instance g).hull row region)) its.0 ∙ (ap (is_closable made.system) (its.1 region ∙ sym same) ∙ none)

-- ---- parameters that are open

pub needed_open : (g : Grounds) (region : Bounds) (param : ℕ) → AreGrounds g → BoxIn region g.root → 0 < param → param - 1 < length region → (interval_at region (param - 1)).0 <ℤ (interval_at region (param - 1)).1 → IsNeeded g.problem.now param
needed_open g region param grounds box first inside wide = by ((instance g).is_needed param) refl
  where
    decides : Decides ((instance g).is_needed param) (IsNeeded g.problem.now param)
    decides = grounds.is.needed param

    alone : (IsNeeded g.problem.now param → ⊥) → ⊥
    alone unneeded =
        let e = grounds.is.root.others param (omega (arith, first)) (omega (arith, inside, box.same_length)) unneeded in
        let outer = box.each (param - 1) (omega (arith, inside, box.same_length)) in
        let low : (interval_at g.root (param - 1)).0 ≡ (old_alone g.problem.now param).0 = ap (λ (r : ℤ × ℤ). r.0) e in
        let high : (interval_at g.root (param - 1)).1 ≡ (old_alone g.problem.now param).1 = ap (λ (r : ℤ × ℤ). r.1) e in
        omega (arith, ints, low, high, outer.0, outer.1.1, wide)

    by : (b : Bool) → (instance g).is_needed param ≡ b → IsNeeded g.problem.now param
    by true is = decides.0 is
    by false is = absurd (alone (λ needed. false≢true (sym is ∙ decides.1 needed)))

pub needed_cut : (g : Grounds) (region : Bounds) (param : ℕ) (cut : ℤ) → AreGrounds g → BoxIn region g.root → 0 < param → CanCut region (param - 1) cut → IsNeeded g.problem.now param
needed_cut g region param cut grounds box first can = needed_open g region param grounds box first can.within (omega (arith, ints, can.low, can.high))
