-- The values of a row give it its goal exactly where its outcome meets the goal.
use Rattle.std.proofs.Common.{◌≡◌, ◌↔◌, ℕ, suc, ◌<◌, Bool, true, false, List, [], ◌∷◌, length, slice_index_or, ℤ, pos, arith, refl, sym, ap, ◌∙◌, IsTrue, eqb-true}
use Rattle.std.specs.declared.option.Option.{Option}
use Rattle.std.specs.declared.option.Option.TheVariants.{Some, None}
use Rattle.std.specs.Ordering.{int_eq}
use Rattle.std.proofs.lemmas.Int.{ints}
use Rattle.std.proofs.lemmas.Bool.{and_parts, and_from, eq-eqb}
use Rattle.qf_base.specs.Values.{Bounds, IsWithin, value_of_var}
use Rattle.qf_base.proofs.Integers.{int_eq_true}
use Rattle.qf_lin.specs.Inequalities.{AllHold}
use Rattle.qf_circuit.specs.Circuits.{truth, eval, hull_of, IsCircuit}
use Rattle.qf_rows.specs.Encoding.{GivesParams}
use Rattle.qf_ir.specs.declared.cell.Cell.{Cell}
use Rattle.qf_ir.specs.declared.cell.Cell.TheVariants.{Int, Text}
use Rattle.qf_ir.specs.declared.cell.Goal.{Goal}
use Rattle.qf_ir.specs.declared.cell.Goal.TheVariants as goal
use Rattle.qf_ir.specs.Value.{Cells, number_of, cell_at}
use Rattle.qf_ir.specs.Repairs.{meets_cell, meet_cells, meets}
use Rattle.qf_ir.specs.Life.{Moment, ending}
use Rattle.qf_encode.specs.declared.coded.Coded.{Coded}
use Rattle.qf_encode.specs.Lives.{CodesMoment}
use Rattle.qf_encode.specs.Systems.{CellIs, CellsAre, GivesGoal, system_of}
use Rattle.qf_encode.specs.Encoding.{SameKind, SameKinds, GoalFits}
use Rattle.qf_encode.proofs.GoalRows.{system_said}

int_eq_yes : (a b : ℤ) → a ≡ b → int_eq a b ≡ true
int_eq_yes a b h = grind (arith, ints)

pos_same : (a b : ℕ) → pos a ≡ pos b → a ≡ b
pos_same a b h = omega (arith, ints, h)

cell_met : (values : List ℤ) (v : ℕ) (cell : Cell) (w : Option Cell) → value_of_var values v ≡ number_of cell → SameKind cell w → CellIs values v w ↔ (meets_cell cell w ≡ true)
cell_met values v cell None e k = (λ h. refl, λ h. tt)
cell_met values v (Int a) (Some (Int b)) e k = (λ h. int_eq_yes a b (sym e ∙ h), λ h. e ∙ int_eq_true a b h)
cell_met values v (Text a) (Some (Text b)) e k = (λ h. eq-eqb a b (pos_same a b (sym e ∙ h)), λ h. e ∙ ap (λ n. pos n) (eqb-true a b h))
cell_met values v (Int a) (Some (Text b)) e k = absurd k
cell_met values v (Text a) (Some (Int b)) e k = absurd k

cells_met : (values : List ℤ) (vs : List ℕ) (cells : Cells) (wanted : List (Option Cell)) → length vs ≡ length cells → ((c : ℕ) → c < length cells → value_of_var values (slice_index_or vs c 0) ≡ number_of (cell_at cells c)) → SameKinds cells wanted → CellsAre values vs wanted ↔ (meet_cells cells wanted ≡ true)
cells_met values [] [] [] n e k = (λ h. refl, λ h. tt)
cells_met values [] [] (w ∷ wanted) n e k = absurd k
cells_met values [] (cell ∷ cells) wanted n e k = absurd (omega (arith, n))
cells_met values (v ∷ vs) [] wanted n e k = absurd (omega (arith, n))
cells_met values (v ∷ vs) (cell ∷ cells) [] n e k = absurd k
cells_met values (v ∷ vs) (cell ∷ cells) (w ∷ wanted) n e k =
    let here = cell_met values v cell w (e 0 (omega arith)) k.0 in
    let more = cells_met values vs cells wanted (omega (arith, n)) (λ c inside. e (suc c) (omega (arith, inside))) k.1 in (
      λ h. and_from (meets_cell cell w) (meet_cells cells wanted) (here.0 h.0) (more.0 h.1),
      λ h. let parts = and_parts (meets_cell cell w) (meet_cells cells wanted) h in (here.1 parts.0, more.1 parts.1),
    )

goal_by : (live : Bool) (cells : Cells) (g : Goal) (values : List ℤ) (c : Coded) → length c.columns ≡ length cells → ((column : ℕ) → column < length cells → value_of_var values (slice_index_or c.columns column 0) ≡ number_of (cell_at cells column)) → value_of_var values c.live ≡ truth live → GoalFits cells g → GivesGoal values c g ↔ (meets (ending (record { cells = cells; live = live })) g ≡ true)
goal_by true cells goal.Gone values c n e l k = (λ h. absurd (omega (arith, ints, h, l)), λ h. cc)
goal_by false cells goal.Gone values c n e l k = (λ h. refl, λ h. omega (arith, ints, l))
goal_by true cells (goal.There wanted) values c n e l k =
    let met = cells_met values c.columns cells wanted n e k in
    (λ h. met.0 h.1, λ h. (omega (arith, ints, l), met.1 h))
goal_by false cells (goal.There wanted) values c n e l k = (λ h. absurd (omega (arith, ints, h.0, l)), λ h. cc)

pub row_encoded : (c : Coded) (m : Moment) (g : Goal) (root : Bounds) (point values : List ℤ) → CodesMoment point c m → IsCircuit c.circuit → IsWithin point root → IsWithin values (hull_of root c.circuit) → GivesParams point values c.circuit → GoalFits m.cells g → AllHold (system_of c root g).inequalities values ↔ ((values ≡ eval point c.circuit) × IsTrue (meets (ending m) g))
row_encoded c m g root point values codes ok inside w params fits =
    let said = system_said c root g point values ok inside w params in
    let met = goal_by m.live m.cells g (eval point c.circuit) c codes.same_length codes.cells codes.live fits in (
      λ h. let parts = said.0 h in (parts.0, met.0 parts.1),
      λ h. said.1 (h.0, met.1 h.1),
    )
