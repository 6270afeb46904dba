-- The goal's inequalities, and with those of the circuit the whole system.
use Rattle.std.proofs.Common.{◌≡◌, ◌↔◌, ℕ, List, [], ◌∷◌, ◌++◌, ℤ, pos, neg_ℤ, arith, subst, sym}
use Rattle.std.specs.declared.option.Option.{Option}
use Rattle.std.specs.declared.option.Option.TheVariants.{Some, None}
use Rattle.std.specs.List.{AllByRecursion}
use Rattle.std.proofs.lemmas.Int.{ints}
use Rattle.std.proofs.lemmas.List.Elements.{All-append, recursion_from_All, All-from_recursion}
use Rattle.qf_base.specs.Values.{Bounds, IsWithin}
use Rattle.qf_lin.specs.declared.inequality.Inequality.{Inequality}
use Rattle.qf_lin.specs.Inequalities.{Holds, AllHold}
use Rattle.qf_circuit.specs.Circuits.{hull_of, eval, IsCircuit}
use Rattle.qf_rows.specs.Encoding.{plus, minus, rows_of, GivesParams}
use Rattle.qf_rows.proofs.Merging.{Holds-inequality, inequality-Holds}
use Rattle.qf_rows.proofs.Definitions.{rows_split}
use Rattle.qf_rows.proofs.Systems.{circuit_matches}
use Rattle.qf_ir.specs.declared.cell.Cell.{Cell}
use Rattle.qf_ir.specs.declared.cell.Goal.{Goal}
use Rattle.qf_ir.specs.declared.cell.Goal.TheVariants as goal
use Rattle.qf_ir.specs.Value.{number_of}
use Rattle.qf_encode.specs.declared.coded.Coded.{Coded}
use Rattle.qf_encode.specs.Systems.{cell_rows, cells_rows, goal_rows, system_of, CellIs, CellsAre, GivesGoal}

abbrev AllByRows : List Inequality → List ℤ → Type 0
AllByRows rows values = AllByRecursion (λ row. Holds row values) rows

joined : (xs ys : List Inequality) (values : List ℤ) → AllByRows xs values → AllByRows ys values → AllByRows (xs ++ ys) values
joined [] ys values h k = k
joined (x ∷ xs) ys values h k = (h.0, joined xs ys values h.1 k)

cell_said : (values : List ℤ) (v : ℕ) (w : Option Cell) → AllByRows (cell_rows v w) values ↔ CellIs values v w
cell_said values v None = (λ h. tt, λ h. tt)
cell_said values v (Some cell) = (
  λ h.
      let p = inequality-Holds (plus v ∷ []) (number_of cell) values h.0 in
      let q = inequality-Holds (minus v ∷ []) (neg_ℤ (number_of cell)) values h.1.0 in
      omega (arith, ints, p, q),
  λ e. (Holds-inequality (plus v ∷ []) (number_of cell) values (omega (arith, ints, e)), (Holds-inequality (minus v ∷ []) (neg_ℤ (number_of cell)) values (omega (arith, ints, e)), tt)),
)

cells_said : (values : List ℤ) (vs : List ℕ) (wanted : List (Option Cell)) → AllByRows (cells_rows vs wanted) values ↔ CellsAre values vs wanted
cells_said values [] wanted = (λ h. tt, λ h. tt)
cells_said values (v ∷ vs) [] = (λ h. tt, λ h. tt)
cells_said values (v ∷ vs) (w ∷ wanted) =
    let here = cell_said values v w in
    let more = cells_said values vs wanted in (
      λ h. let parts = rows_split (cell_rows v w) (cells_rows vs wanted) values h in (here.0 parts.0, more.0 parts.1),
      λ k. joined (cell_rows v w) (cells_rows vs wanted) values (here.1 k.0) (more.1 k.1),
    )

goal_said : (c : Coded) (g : Goal) (values : List ℤ) → AllByRows (goal_rows c g) values ↔ GivesGoal values c g
goal_said c goal.Gone values = (
  λ h. let p = inequality-Holds (minus c.live ∷ []) (pos 0) values h.0 in omega (arith, ints, p),
  λ k. (Holds-inequality (minus c.live ∷ []) (pos 0) values (omega (arith, ints, k)), tt),
)
goal_said c (goal.There wanted) values =
    let cells = cells_said values c.columns wanted in (
      λ h. let p = inequality-Holds (plus c.live ∷ []) (pos 1) values h.0 in (omega (arith, ints, p), cells.0 h.1),
      λ k. (Holds-inequality (plus c.live ∷ []) (pos 1) values (omega (arith, ints, k.0)), cells.1 k.1),
    )

pub goals_said : (c : Coded) (g : Goal) (values : List ℤ) → AllHold (goal_rows c g) values ↔ GivesGoal values c g
goals_said c g values = (
  λ h. (goal_said c g values).0 (recursion_from_All (λ row. Holds row values) (goal_rows c g) h),
  λ k. All-from_recursion (λ row. Holds row values) (goal_rows c g) ((goal_said c g values).1 k),
)

pub system_said : (c : Coded) (root : Bounds) (g : Goal) (point values : List ℤ) → IsCircuit c.circuit → IsWithin point root → IsWithin values (hull_of root c.circuit) → GivesParams point values c.circuit → AllHold (system_of c root g).inequalities values ↔ ((values ≡ eval point c.circuit) × GivesGoal (eval point c.circuit) c g)
system_said c root g point values ok inside w params =
    let rows = rows_of (hull_of root c.circuit) c.circuit in
    let own = circuit_matches c.circuit root point ok.names ok.truths inside values w params in
    let P : Inequality → Type 0 = λ row. Holds row values in (
      λ h.
          let parts = rows_split rows (goal_rows c g) values (recursion_from_All P (rows ++ goal_rows c g) h) in
          let same = own.0 (All-from_recursion P rows parts.0) in
          (same, subst (λ vs. GivesGoal vs c g) same ((goal_said c g values).0 parts.1)),
      λ k. All-append P rows (goal_rows c g) (own.1 k.0) ((goals_said c g values).1 (subst (λ vs. GivesGoal vs c g) (sym k.0) k.1)),
    )
