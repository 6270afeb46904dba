-- The system of a row is well formed, and the numbers that come up as it is used are small.
use Rattle.std.proofs.Common.{slice_index_or, suc, ℕ, ◌+◌, ◌*◌, ◌<◌, ◌≤◌, ◌^◌, List, [], ◌∷◌, ◌++◌, length, ℤ, pos, neg_ℤ, unsigned_abs, arith, length-append}
use Rattle.std.specs.declared.option.Option.{Option}
use Rattle.std.specs.declared.option.Option.TheVariants.{Some, None}
use Rattle.std.specs.List.{AllByRecursion}
use Rattle.std.proofs.lemmas.Int.{ints}
use Rattle.std.proofs.lemmas.List.Elements.{All-from_recursion, recursion_from_All, All-append}
use Rattle.qf_base.specs.Values.{Bounds, interval_of_var}
use Rattle.qf_lin.specs.Inequalities.{IsSmall, AreSmall, IsWellFormed}
use Rattle.qf_circuit.specs.Circuits.{IsCircuit, circuit_size, hull_of}
use Rattle.qf_rows.specs.Encoding.{inequality, plus, minus, rows_of}
use Rattle.qf_rows.specs.Systems.{IsModest, EndsWithin56}
use Rattle.qf_rows.proofs.Forms.{AreGood, good_row, good_append, good_rows, good_named, good_proper, rows_few, selectors_exist}
use Rattle.qf_rows.proofs.Small.{small_row, plus-size, ends_of, system_small}
use Rattle.qf_ir.specs.declared.cell.Cell.{Cell}
use Rattle.qf_ir.specs.declared.cell.Goal.{Goal}
use Rattle.qf_ir.specs.declared.cell.Goal.TheVariants as goal
use Rattle.qf_ir.specs.Value.{number_of}
use Rattle.qf_encode.specs.declared.coded.Coded.{Coded}
use Rattle.qf_encode.specs.Lives.{NamesDefinitions}
use Rattle.qf_encode.specs.Systems.{cell_rows, cells_rows, goal_rows, system_of}
use Rattle.qf_system.specs.SystemsMade.{IsPlainCell, SuitsColumns}

-- ---- variables

abbrev InRange : ℕ → ℕ → Type 0
InRange vars v = (0 < v) × (v ≤ vars)

good_cell : (vars v : ℕ) (w : Option Cell) → InRange vars v → AreGood vars (cell_rows v w)
good_cell vars v None h = tt
good_cell vars v (Some cell) h = (good_row vars (plus v ∷ []) (number_of cell) (h, tt), (good_row vars (minus v ∷ []) (neg_ℤ (number_of cell)) (h, tt), tt))

good_cells : (vars : ℕ) (vs : List ℕ) (wanted : List (Option Cell)) → AllByRecursion (InRange vars) vs → AreGood vars (cells_rows vs wanted)
good_cells vars [] wanted h = tt
good_cells vars (v ∷ vs) [] h = tt
good_cells vars (v ∷ vs) (w ∷ wanted) h = good_append vars (cell_rows v w) (cells_rows vs wanted) (good_cell vars v w h.0) (good_cells vars vs wanted h.1)

columns_in : (vars : ℕ) (vs : List ℕ) → ((column : ℕ) → column < length vs → InRange vars (slice_index_or vs column 0)) → AllByRecursion (InRange vars) vs
columns_in vars [] h = tt
columns_in vars (v ∷ vs) h = (h 0 (omega arith), columns_in vars vs (λ column inside. h (suc column) (omega (arith, inside))))

good_goal : (width : ℕ) (c : Coded) (g : Goal) → NamesDefinitions width c → AreGood (length c.circuit) (goal_rows c g)
good_goal width c goal.Gone own = (good_row (length c.circuit) (minus c.live ∷ []) (pos 0) (own.live, tt), tt)
good_goal width c (goal.There wanted) own =
    (good_row (length c.circuit) (plus c.live ∷ []) (pos 1) (own.live, tt), good_cells (length c.circuit) c.columns wanted (columns_in (length c.circuit) c.columns (λ column inside. own.each column (omega (arith, inside, own.columns)))))

-- ---- how many

cell_count : (v : ℕ) (w : Option Cell) → length (cell_rows v w) ≤ 2
cell_count v None = omega arith
cell_count v (Some cell) = omega arith

cells_count : (vs : List ℕ) (wanted : List (Option Cell)) → length (cells_rows vs wanted) ≤ 2 * length vs
cells_count [] wanted = omega arith
cells_count (v ∷ vs) [] = omega arith
cells_count (v ∷ vs) (w ∷ wanted) = omega (arith, length-append (cell_rows v w) (cells_rows vs wanted), cell_count v w, cells_count vs wanted)

goal_count : (c : Coded) (g : Goal) → length (goal_rows c g) ≤ 1 + 2 * length c.columns
goal_count c goal.Gone = omega arith
goal_count c (goal.There wanted) = omega (arith, cells_count c.columns wanted)

pub system_well_formed : (width : ℕ) (c : Coded) (root : Bounds) (g : Goal) → IsCircuit c.circuit → circuit_size c.circuit < 2 ^ 29 → width ≤ 32 → NamesDefinitions width c → IsWellFormed (system_of c root g)
system_well_formed width c root g circuit few narrow own =
    let vars = length c.circuit in
    let rows = rows_of (hull_of root c.circuit) c.circuit in
    let good = good_append vars rows (goal_rows c g) (good_rows (hull_of root c.circuit) c.circuit circuit.names) (good_goal width c g own) in
    record {
      few = omega (arith, rows_few (hull_of root c.circuit) c.circuit few, goal_count c g, own.columns, narrow, length-append rows (goal_rows c g));
      named = good_named vars (rows ++ goal_rows c g) good;
      proper = good_proper vars (rows ++ goal_rows c g) good;
      selectors = selectors_exist c.circuit;
    }

-- ---- sizes

one_small : (bounds : Bounds) (v : ℕ) (least : ℤ) → EndsWithin56 (interval_of_var bounds v) → unsigned_abs least ≤ 2 ^ 50 → IsSmall (inequality (plus v ∷ []) least) bounds × IsSmall (inequality (minus v ∷ []) least) bounds
one_small bounds v least ends small =
    let sizes = plus-size (2 ^ 56) bounds v ends.0 ends.1 in (
      small_row bounds (plus v ∷ []) least (omega (arith, small)) (omega (arith, sizes.0)),
      small_row bounds (minus v ∷ []) least (omega (arith, small)) (omega (arith, sizes.1)),
    )

module _ (bounds : Bounds) (ends : (v : ℕ) → EndsWithin56 (interval_of_var bounds v)) where
  cell_small : (v : ℕ) (w : Option Cell) → IsPlainCell w → AreSmall (cell_rows v w) bounds
  cell_small v None plain = All-from_recursion (λ row. IsSmall row bounds) [] tt
  cell_small v (Some cell) plain =
      All-from_recursion (λ row. IsSmall row bounds) (cell_rows v (Some cell)) ((one_small bounds v (number_of cell) (ends v) plain).0, ((one_small bounds v (neg_ℤ (number_of cell)) (ends v) (omega (arith, ints, plain))).1, tt))

  cells_small : (vs : List ℕ) (wanted : List (Option Cell)) → AllByRecursion IsPlainCell wanted → AreSmall (cells_rows vs wanted) bounds
  cells_small [] wanted plain = All-from_recursion (λ row. IsSmall row bounds) [] tt
  cells_small (v ∷ vs) [] plain = All-from_recursion (λ row. IsSmall row bounds) [] tt
  cells_small (v ∷ vs) (w ∷ wanted) plain = All-append (λ row. IsSmall row bounds) (cell_rows v w) (cells_rows vs wanted) (cell_small v w plain.0) (cells_small vs wanted plain.1)

  goal_small : (c : Coded) (g : Goal) → SuitsColumns c.columns g → AreSmall (goal_rows c g) bounds
  goal_small c goal.Gone suits =
      All-from_recursion (λ row. IsSmall row bounds) (goal_rows c goal.Gone) ((one_small bounds c.live (pos 0) (ends c.live) (omega (arith, ints))).1, tt)
  goal_small c (goal.There wanted) suits =
      let first : AreSmall (inequality (plus c.live ∷ []) (pos 1) ∷ []) bounds = All-from_recursion (λ row. IsSmall row bounds) (inequality (plus c.live ∷ []) (pos 1) ∷ []) ((one_small bounds c.live (pos 1) (ends c.live) (omega (arith, ints))).0, tt) in
      All-append (λ row. IsSmall row bounds) (inequality (plus c.live ∷ []) (pos 1) ∷ []) (cells_rows c.columns wanted) first (cells_small c.columns wanted (recursion_from_All IsPlainCell wanted suits.1))

pub row_system_small : (c : Coded) (root box : Bounds) (g : Goal) → IsCircuit c.circuit → circuit_size c.circuit < 2 ^ 29 → IsModest root c.circuit → IsModest box c.circuit → SuitsColumns c.columns g → AreSmall (system_of c root g).inequalities (hull_of box c.circuit)
row_system_small c root box g circuit few wide narrow suits =
    let bounds = hull_of box c.circuit in
    All-append (λ row. IsSmall row bounds) (rows_of (hull_of root c.circuit) c.circuit) (goal_rows c g) (system_small c.circuit box circuit.names circuit.truths root few wide narrow) (goal_small bounds (ends_of bounds narrow.ends) c g suits)
