-- The system of a row can be used over each box in the root box.
use Rattle.std.proofs.Common.{All as AllOf, ◌≡◌, sym, subst, inl, inr, ℕ, zero, suc, ◌<◌, ◌≤◌, ◌^◌, true, false, List, [], ◌∷◌, length, map, get_or, ℤ, pos, unsigned_abs, arith}
use Rattle.std.specs.declared.option.Option.TheVariants.{Some}
use Rattle.std.specs.List.{AllByRecursion}
use Rattle.std.proofs.lemmas.Int.{ints}
use Rattle.std.proofs.lemmas.List.{length-map, get_or-map}
use Rattle.std.proofs.lemmas.List.Elements.{All-from_get_or}
use Rattle.std.proofs.lemmas.Bool.{cases_Bool}
use Rattle.std.proofs.lemmas.Bool.Decides.{nat_tests}
use Rattle.qf_base.specs.declared.names.RowName.{RowName}
use Rattle.qf_base.specs.Values.{Interval, Bounds, IsWithin, interval_at}
use Rattle.qf_lin.specs.declared.inequality.System.{System}
use Rattle.qf_lin.specs.Inequalities.{NamesVars, AreSmall, IsWellFormed, is_empty}
use Rattle.qf_lin.proofs.Soundness.{empty_holds_none}
use Rattle.qf_circuit.specs.Circuits.{eval, hull_of, hull_of_def, IsCircuit, circuit_size}
use Rattle.qf_circuit.proofs.Built.{built_length}
use Rattle.qf_circuit.proofs.HullLemmas.{eval_in_hull}
use Rattle.qf_point.specs.Domains.{is_small, AreSmall as AreSmallOlds, HasSmallEnds as HaveSmallEnds}
use Rattle.qf_ir.specs.Fits.{Small}
use Rattle.qf_ir.specs.Plan.{RowExists}
use Rattle.qf_goal.specs.Case.{Case, goal_at}
use Rattle.qf_goal.specs.SoundCase.{IsSoundCase}
use Rattle.qf_slice.specs.RootBox.{IsRootBox}
use Rattle.qf_tree.specs.Steps.{RowsFit}
use Rattle.qf_encode.specs.declared.coded.Coded.{Coded}
use Rattle.qf_encode.specs.Lives.{BoxIn}
use Rattle.qf_encode.specs.Systems.{system_of}
use Rattle.qf_encode.proofs.Outcomes.{plan_names}
use Rattle.qf_encode.proofs.RowBirths.{plan_circuit, plan_size}
use Rattle.qf_system.specs.SystemsMade.{SuitsColumns}
use Rattle.qf_system.specs.WidthsKept.{HasSmallEnds, IsSmallCircuit}
use Rattle.qf_system.proofs.SmallSums.{inner_ends}
use Rattle.qf_system.proofs.WidthsKeep.{circuits_small}
use Rattle.qf_system.proofs.SoundLogs.{sound_plain}
use Rattle.qf_system.proofs.GoalSystems.{system_well_formed, row_system_small}
use Rattle.qf_instance.specs.Instances.{case_circuit}
use Rattle.qf_instance.specs.RowSystems.{IsRowSystem}
use Rattle.qf_instance.proofs.Boxes.{box_within, root_in_domains}
use Rattle.qf_instance.proofs.Goals.{goal_suits}

-- ---- the ends of the domains, and of a box in them

size_small : (z : ℤ) → unsigned_abs z ≤ 2 ^ 50 → is_small z ≡ true
size_small z h = grind (arith, nat_tests)

olds_small : (olds : List ℤ) → AllByRecursion Small olds → AreSmallOlds olds
olds_small [] h = tt
olds_small (old ∷ olds) h = (size_small old (omega (arith, ints, h.0.low, h.0.high)), olds_small olds h.1)

pub case_ends : (case : Case) → IsSoundCase case → (AreSmallOlds case.domains.olds → HaveSmallEnds case.domains.region) → HaveSmallEnds case.domains.region
case_ends case sound h = h (subst (λ (olds : List ℤ). AreSmallOlds olds) (sym sound.olds) (olds_small case.plan.olds sound.plan.small_olds))

small_size : (z : ℤ) → is_small z ≡ true → unsigned_abs z ≤ 2 ^ 50
small_size z e = grind (arith, nat_tests)

small_at : (domains : Bounds) (place : ℕ) → HaveSmallEnds domains → HasSmallEnds (interval_at domains place)
small_at [] place h = (omega (arith, ints), omega (arith, ints))
small_at (r ∷ domains) zero h = (small_size r.0 h.0.0, small_size r.1 h.0.1)
small_at (r ∷ domains) (suc place) h = small_at domains place h.1

ends_small : (region domains : Bounds) → BoxIn region domains → HaveSmallEnds domains → AllOf HasSmallEnds region
ends_small region domains box small = All-from_get_or HasSmallEnds region (pos 0, pos 0) (λ place inside.
    let own = box.each place (omega (arith, inside, box.same_length)) in
    inner_ends (interval_at region place) (interval_at domains place) own (small_at domains place small))

-- ---- a hull over a box that is not empty is not empty

abbrev lows : Bounds → List ℤ
lows region = map (λ (r : Interval). r.0) region

lows_within : (region root : Bounds) → BoxIn region root → IsWithin (lows region) region
lows_within region root box = record {
  same_length = length-map region (λ (r : Interval). r.0);
  each = λ place inside.
      let own = box.each place (omega (arith, inside, box.same_length)) in
      let low = get_or-map (λ (r : Interval). r.0) region place (pos 0, pos 0) (pos 0) inside in
      rw low (omega (arith, ints), own.1.0);
}

hull_not_empty : (region root : Bounds) (c : Coded) → BoxIn region root → IsCircuit c.circuit → is_empty (hull_of region c.circuit) ≡ false
hull_not_empty region root c box circuit =
    let values = eval (lows region) c.circuit in
    let within = eval_in_hull c.circuit region (lows region) circuit.names (lows_within region root box) in
    elim (cases_Bool (is_empty (hull_of region c.circuit))) [
      | inl empty ↦ absurd (empty_holds_none values (hull_of region c.circuit) empty within)
      | inr some ↦ some
    ]

-- ---- inequalities over bounds

rows_fit : (system : System) (bounds : Bounds) → system.vars ≡ length bounds → IsWellFormed system → AreSmall system.inequalities bounds → is_empty bounds ≡ false → RowsFit system bounds
rows_fit system bounds vars formed small some = record {
  rows = λ place row inside. record {
    small = small place row inside;
    named = subst (NamesVars (get_or system.inequalities place row).terms) vars (formed.named place row inside);
    proper = formed.proper place row inside;
  };
  not_empty = some;
}

-- ---- a row

pub row_formed : (case : Case) (root : Bounds) (row : RowName) → IsSoundCase case → (c : Coded) → case_circuit case row ≡ Some c → IsWellFormed (system_of c root (goal_at case row))
row_formed case root row sound c e =
    let plan = case.plan in
    let table = case.table in
    system_well_formed (length plan.columns) c root (goal_at case row) (plan_circuit plan table row c sound.plan sound.belongs e) (plan_size plan table row c sound.plan sound.belongs e) sound.plan.few_columns (plan_names plan table row c sound.plan sound.belongs e)

module _ (case : Case) (root : Bounds) (row : RowName) (sound : IsSoundCase case) (is : IsRootBox case root) (ends : HaveSmallEnds case.domains.region) (exists : RowExists case.plan row) (c : Coded) (e : case_circuit case row ≡ Some c) where
  row_circuit : IsCircuit c.circuit
  row_circuit = plan_circuit case.plan case.table row c sound.plan sound.belongs e

  pub row_few : circuit_size c.circuit < 2 ^ 29
  row_few = plan_size case.plan case.table row c sound.plan sound.belongs e

  small_in_domains : (region : Bounds) → BoxIn region case.domains.region → IsSmallCircuit region c
  small_in_domains region box =
      let log = sound_plain case.plan case.table sound.plan sound.table sound.belongs in
      let made = circuits_small (length case.plan.columns) case.table.rows case.plan.statements row case.domains.region sound.fits.0 region sound.fits.1 log.rows log.names log.cells log.statements box (ends_small region case.domains.region box ends) in
      let whole = rw e at made in
      whole row_circuit

  pub row_suits : SuitsColumns c.columns (goal_at case row)
  row_suits = goal_suits case row c sound exists e

  pub root_small : IsSmallCircuit root c
  root_small = small_in_domains root (root_in_domains case root sound is)

  small_in_root : (region : Bounds) → BoxIn region root → IsSmallCircuit region c
  small_in_root region box = small_in_domains region (box_within region root case.domains.region box (root_in_domains case root sound is))

  formed : IsWellFormed (system_of c root (goal_at case row))
  formed = row_formed case root row sound c e

  fits_in_root : (region : Bounds) → BoxIn region root → RowsFit (system_of c root (goal_at case row)) (hull_of region c.circuit)
  fits_in_root region box =
      let small = row_system_small c root region (goal_at case row) row_circuit row_few root_small.modest (small_in_root region box).modest row_suits in
      let long : length c.circuit ≡ length (hull_of region c.circuit) = omega (arith, built_length (hull_of_def region) (pos 0, pos 0) [] c.circuit) in
      rows_fit (system_of c root (goal_at case row)) (hull_of region c.circuit) long formed small (hull_not_empty region root c box row_circuit)

  pub is_row_system : (system : System) → system ≡ system_of c root (goal_at case row) → IsRowSystem case root row (record { coded = c; system = system })
  is_row_system system same = record {
    coded = e;
    system = same;
    well_formed = subst IsWellFormed (sym same) formed;
    small = small_in_root;
    fits = λ region box. subst (λ s. RowsFit s (hull_of region c.circuit)) (sym same) (fits_in_root region box);
  }
