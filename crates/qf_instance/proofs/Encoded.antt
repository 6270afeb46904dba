-- What the claims of certificates rest on holds of a sound problem.
use Rattle.std.proofs.Common.{◌≡◌, ◌∙◌, ap, sym, subst, refl, ℕ, zero, suc, Bool, true, false, ℤ, pos, List, [], ◌∷◌, length, map, slice_get, slice_index_or, if◌then◌else◌, arith}
use Rattle.std.specs.declared.option.Option.{Option}
use Rattle.std.specs.declared.option.Option.TheVariants.{Some, None}
use Rattle.std.proofs.lemmas.Bool.{and_parts}
use Rattle.std.proofs.lemmas.List.Elements.{All-nil}
use Rattle.qf_base.specs.declared.names.RowName.{RowName}
use Rattle.qf_base.specs.declared.names.RowName.TheVariants.{Start, Inserted}
use Rattle.qf_base.specs.Values.{Bounds, IsWithin}
use Rattle.qf_base.proofs.BoxLaws.{length-In, IsWithin-In}
use Rattle.qf_lin.specs.Inequalities.{Holds, AllHold}
use Rattle.qf_circuit.specs.declared.circuit.Def.{Def}
use Rattle.qf_circuit.specs.declared.circuit.Def.TheVariants.{Param, Const, Linear, AtLeastZero, All, Any, Not, Choose}
use Rattle.qf_circuit.specs.Circuits.{value_of_def, eval, NamesEarlier, IsCircuit}
use Rattle.qf_circuit.proofs.Built.{eval_keeps}
use Rattle.qf_circuit.proofs.HullLemmas.{eval_in_hull}
use Rattle.qf_rows.specs.Encoding.{GivesParam, GivesParams}
use Rattle.qf_ir.specs.declared.cell.Cell.{Cell}
use Rattle.qf_ir.specs.declared.cell.Cell.TheVariants.{Int, Text}
use Rattle.qf_ir.specs.declared.cell.Goal.{Goal}
use Rattle.qf_ir.specs.declared.cell.Goal.TheVariants as goal
use Rattle.qf_ir.specs.declared.cell.Outcome.{Outcome}
use Rattle.qf_ir.specs.declared.cell.Outcome.TheVariants as outcome
use Rattle.qf_ir.specs.declared.table.Table.{Table}
use Rattle.qf_ir.specs.Value.{Cells}
use Rattle.qf_ir.specs.Life.{Birth, last_moment, ending_of, birth}
use Rattle.qf_ir.specs.Plan.{Plan, RowExists, final_outcome}
use Rattle.qf_ir.specs.Repairs.{meets_cell, meet_cells, meets, all_meet}
use Rattle.qf_ir.proofs.History.{outcome-start, outcome-inserted}
use Rattle.qf_goal.specs.Case.{Case, case_rows, outcome_at, goal_at, mends}
use Rattle.qf_goal.specs.SoundCase.{IsSoundCase}
use Rattle.qf_goal.specs.RowPlaces.{row_place}
use Rattle.qf_goal.proofs.RowLemmas.{row_exists_is, row-at-place}
use Rattle.qf_goal.proofs.KeptLemmas.{rows-same}
use Rattle.qf_slice.specs.RootBox.{IsRootBox}
use Rattle.qf_slice.proofs.Slicing.{loses-no-repair}
use Rattle.qf_tree.specs.Certificates.{IsFaithful}
use Rattle.qf_encode.specs.declared.coded.Coded.{Coded}
use Rattle.qf_encode.specs.Lives.{CodesBirth}
use Rattle.qf_encode.specs.Encoding.{SameKind, SameKinds, GoalFits}
use Rattle.qf_encode.proofs.GoalsMet.{row_encoded}
use Rattle.qf_encode.proofs.Outcomes.{plan_lives}
use Rattle.qf_encode.proofs.RowBirths.{plan_circuit}
use Rattle.qf_instance.specs.Instances.{case_circuit, system_or, hull_or, instance_of}
use Rattle.qf_instance.specs.Laws.{InstancesAreFaithful}

-- ---- a row of a repair meets its goal

met_at : (outcome : RowName → Outcome) (goal : RowName → Goal) (rows : List RowName) (place : ℕ) (row : RowName) → all_meet outcome rows (map goal rows) ≡ true → slice_get rows place ≡ Some row → meets (outcome row) (goal row) ≡ true
met_at outcome goal [] place row h at = absurd (cc)
met_at outcome goal (r ∷ rows) zero row h at =
    let same : r ≡ row = cc in
    subst (λ x. meets (outcome x) (goal x) ≡ true) same (and_parts (meets (outcome r) (goal r)) (all_meet outcome rows (map goal rows)) h).0
met_at outcome goal (r ∷ rows) (suc place) row h at =
    met_at outcome goal rows place row (and_parts (meets (outcome r) (goal r)) (all_meet outcome rows (map goal rows)) h).1 at

pub row_met : (case : Case) (q : List ℤ) (row : RowName) → IsSoundCase case → RowExists case.plan row → mends case q ≡ true → meets (outcome_at case q row) (goal_at case row) ≡ true
row_met case q row sound exists mended =
    let at : slice_get (case_rows case) (row_place case.plan.starts row) ≡ Some row =
    ap (λ rows. slice_get rows (row_place case.plan.starts row)) (sym (rows-same case sound)) ∙ row-at-place case.plan row exists in
    met_at (λ r. outcome_at case q r) (λ r. goal_at case r) (case_rows case) (row_place case.plan.starts row) row mended at

-- ---- where a goal is met, its cells are of their columns' kinds

kind_met : (c : Cell) (w : Option Cell) → meets_cell c w ≡ true → SameKind c w
kind_met c None h = tt
kind_met (Int a) (Some (Int b)) h = tt
kind_met (Text a) (Some (Text b)) h = tt
kind_met (Int a) (Some (Text b)) h = absurd (cc)
kind_met (Text a) (Some (Int b)) h = absurd (cc)

kinds_met : (cells : Cells) (wanted : List (Option Cell)) → meet_cells cells wanted ≡ true → SameKinds cells wanted
kinds_met [] [] h = tt
kinds_met [] (w ∷ wanted) h = absurd (cc)
kinds_met (c ∷ cells) [] h = absurd (cc)
kinds_met (c ∷ cells) (w ∷ wanted) h =
    let parts = and_parts (meets_cell c w) (meet_cells cells wanted) h in
    (kind_met c w parts.0, kinds_met cells wanted parts.1)

goal_fits : (live : Bool) (cells : Cells) (g : Goal) → meets (if live then outcome.There cells else outcome.Gone) g ≡ true → GoalFits cells g
goal_fits live cells goal.Gone h = tt
goal_fits true cells (goal.There wanted) h = kinds_met cells wanted h
goal_fits false cells (goal.There wanted) h = absurd (cc)

-- ---- a row's values have the parameters of their point

param_given : (point values : List ℤ) (value : ℤ) (d : Def) → value ≡ value_of_def point values d → GivesParam point value d
param_given point values value (Param k) h = h
param_given point values value (Const n) h = tt
param_given point values value (Linear terms n) h = tt
param_given point values value (AtLeastZero v) h = tt
param_given point values value (All xs) h = tt
param_given point values value (Any xs) h = tt
param_given point values value (Not x) h = tt
param_given point values value (Choose x a b) h = tt

params_given : (point : List ℤ) (defs : List Def) → NamesEarlier defs → GivesParams point (eval point defs) defs
params_given point defs names = λ place inside.
    let own = (eval_keeps point defs names).each place inside in
    param_given point (eval point defs) (slice_index_or (eval point defs) place (pos 0)) (slice_index_or defs place (Const (pos 0))) own

-- ---- where a row meets its goal, its values satisfy its system

pub outcome_is : (plan : Plan) (table : Table) (row : RowName) (point : List ℤ) → RowExists plan row → final_outcome plan table row point ≡ ending_of (birth (length plan.columns) table.rows plan.statements row point) point
outcome_is plan table (Start k) point exists = outcome-start (length plan.columns) table.rows plan.statements k point exists.0
outcome_is plan table (Inserted k) point exists = outcome-inserted (length plan.columns) table.rows plan.statements k point exists.0

module _ (case : Case) (root region : Bounds) (row : RowName) (q : List ℤ) (sound : IsSoundCase case) (exists : RowExists case.plan row) (in_root : IsWithin q root) (in_region : IsWithin q region) (met : meets (outcome_at case q row) (goal_at case row) ≡ true) where
  abbrev Satisfies : Option Coded → Type 0
  Satisfies o = (values : List ℤ) × AllHold (system_or root (goal_at case row) o).inequalities values × IsWithin values (hull_or region o)

  by_birth : (c : Coded) (b : Option Birth) → IsCircuit c.circuit → CodesBirth q (Some c) b → meets (ending_of b q) (goal_at case row) ≡ true → Satisfies (Some c)
  by_birth c None circuit codes ends = absurd codes
  by_birth c (Some b) circuit codes ends =
      let m = last_moment q b.rest b.first in
      let fits = goal_fits m.live m.cells (goal_at case row) ends in
      let here = eval_in_hull c.circuit root q circuit.names in_root in
      let params = params_given q c.circuit circuit.names in
      let said = row_encoded c m (goal_at case row) root q (eval q c.circuit) codes circuit in_root here params fits in
      (eval q c.circuit, said.1 (refl, ends), eval_in_hull c.circuit region q circuit.names in_region)

  by_circuit : (o : Option Coded) → case_circuit case row ≡ o → Satisfies o
  by_circuit None e = ([], All-nil (λ row. Holds row []), record { same_length = refl; each = λ place inside. absurd (omega (arith, inside)) })
  by_circuit (Some c) e =
      let born = birth (length case.plan.columns) case.table.rows case.plan.statements row q in
      let ends : meets (ending_of born q) (goal_at case row) ≡ true =
      subst (λ o. meets o (goal_at case row) ≡ true) (outcome_is case.plan case.table row q exists) met in
      by_birth c born (plan_circuit case.plan case.table row c sound.plan sound.belongs e) (plan_lives case.plan case.table row c q sound.plan sound.belongs e) ends

  pub met_satisfies : Satisfies (case_circuit case row)
  met_satisfies = by_circuit (case_circuit case row) refl

-- ---- the law

faithful_by : (case : Case) (root : Bounds) (is_needed : ℕ → Bool) → IsSoundCase case → IsRootBox case root → IsFaithful (instance_of case root is_needed)
faithful_by case root is_needed sound is = record {
  same_length = sym (length-In case.domains.region case.plan.olds sound.inside);
  root_length = is.len;
  sliced = λ q inside mended.
      let slice = loses-no-repair case root sound is q inside mended in
      (slice.point, IsWithin-In root slice.point slice.inside, slice.mends, slice.as_good);
  encoded = λ row region q there in_root in_region mended.
      let exists = row_exists_is case.plan row there in
      met_satisfies case root region row q sound exists in_root in_region (row_met case q row sound exists mended);
}

pub faithful : InstancesAreFaithful
faithful case inst sound x = subst (λ i. IsFaithful i) (sym x.is) (faithful_by case inst.root inst.is_needed sound x.root)
