-- The circuits of rows, found by going through the statements.
use Rattle.std.proofs.Common.{◌≡◌, ℕ, zero, suc, ◌+◌, ◌-◌, ◌^◌, ◌<◌, ◌≤◌, List, [], ◌∷◌, length, slice_get, slice_index_or, map, pos, length-append, arith, refl, ap, ◌∙◌, inl, inr}
use Rattle.std.proofs.lemmas.Bool.{cases_lt}
use Rattle.std.specs.declared.option.Option.{Option}
use Rattle.std.specs.declared.option.Option.TheVariants.{Some, None}
use Rattle.std.specs.declared.result.Result.{Result}
use Rattle.std.specs.declared.result.Result.TheVariants.{Ok, Err}
use Rattle.std.specs.Prelude.{IfOk}
use Rattle.qf_base.specs.declared.names.RowName.{RowName}
use Rattle.qf_base.specs.declared.names.RowName.TheVariants.{Start, Inserted}
use Rattle.qf_circuit.specs.Circuits.{IsCircuit, circuit_size}
use Rattle.qf_ir.specs.declared.ast.Expr.{Expr}
use Rattle.qf_ir.specs.declared.ast.Expr.TheVariants.{Word}
use Rattle.qf_ir.specs.declared.ast.Statement.{Statement}
use Rattle.qf_ir.specs.declared.ast.Statement.TheVariants.{Update, Delete, Insert}
use Rattle.qf_ir.specs.declared.table.Table.{Table}
use Rattle.qf_ir.specs.declared.cell.Cell.{Cell}
use Rattle.qf_circuit.specs.declared.circuit.Def.TheVariants as def
use Rattle.std.proofs.lemmas.List.{length-map}
use Rattle.qf_ir.specs.Value.{Cells, number_of}
use Rattle.qf_ir.specs.Replay.{place_of, inserted_count}
use Rattle.qf_ir.specs.Plan.{Plan, IsSound, Belongs, RowExists}
use Rattle.qf_encode.specs.declared.coded.Coded.{Coded}
use Rattle.qf_encode.specs.Coding.{Defs, made_item, made_items, coded, start_coding, insert_coding, insert_coding_or, coded_or, inserted_coding, circuit_of}
use Rattle.qf_encode.specs.Lives.{RowsIn}
use Rattle.qf_encode.specs.Making.{HasCircuit}
use Rattle.qf_encode.proofs.Sizes.{length_size, circuit_small}
use Rattle.qf_encode.proofs.Sound.{plan_in, plan_small}
use Rattle.qf_encode.proofs.WellMade.{rows_circuits}

pub items_length : (columns : List ℕ) (tuple : List Expr) (n first : ℕ) (defs : Defs) → length (made_items columns tuple defs first n).1 ≡ n
items_length columns tuple zero first defs = refl
items_length columns tuple (suc n) first defs =
    ap suc (items_length columns tuple n (first + 1) (made_item defs (slice_index_or tuple (place_of columns first) (Word 0))).0)

pub start_length : (cells : Cells) → length (start_coding cells).circuit ≡ length cells + 1
start_length cells =
    let consts = map (λ (cell : Cell). def.Const (number_of cell)) cells in
    omega (arith, length-append consts (def.Const (pos 1) ∷ []), length-map cells (λ (cell : Cell). def.Const (number_of cell)))

past_none : {X : Type 0} (xs : List X) (i : ℕ) → length xs ≤ i → slice_get xs i ≡ None
past_none [] i h = refl
past_none (x ∷ xs) zero h = absurd (omega (arith, h))
past_none (x ∷ xs) (suc i) h = past_none xs i (omega (arith, h))

-- ---- the statement that inserts a row

pub coding_here : (width : ℕ) (statements : List Statement) (columns : List ℕ) (tuples : List (List Expr)) (place : ℕ) (tuple : List Expr) (rest : List Statement) → statements ≡ Insert columns tuples ∷ rest → slice_get tuples place ≡ Some tuple → inserted_coding width statements place ≡ Some (coded rest (insert_coding width columns tuple))
coding_here width statements columns tuples place tuple rest e got =
    rw e (ap (λ (g : Option (List Expr)). coded_or (insert_coding_or width columns g) rest (inserted_coding width rest (place - length tuples))) got)

pub coding_past : (width : ℕ) (statements : List Statement) (columns : List ℕ) (tuples : List (List Expr)) (place : ℕ) (rest : List Statement) → statements ≡ Insert columns tuples ∷ rest → length tuples ≤ place → inserted_coding width statements place ≡ inserted_coding width rest (place - length tuples)
coding_past width statements columns tuples place rest e past =
    rw e (ap (λ (g : Option (List Expr)). coded_or (insert_coding_or width columns g) rest (inserted_coding width rest (place - length tuples))) (past_none tuples place past))

-- ---- circuits of a sound program

rows_in : (width : ℕ) (table : List Cells) → ((place : ℕ) (cells : Cells) → slice_get table place ≡ Some cells → length cells ≡ width) → RowsIn width table
rows_in width [] h = tt
rows_in width (cells ∷ table) h = (h 0 cells refl, rows_in width table (λ place got e. h (suc place) got e))

pub plan_rows : (plan : Plan) (table : Table) → Belongs plan table → RowsIn (length plan.columns) table.rows
plan_rows plan table belongs = rows_in (length plan.columns) table.rows belongs.rows.each

pub plan_size : (plan : Plan) (table : Table) (row : RowName) (c : Coded) → IsSound plan → Belongs plan table → circuit_of (length plan.columns) table.rows plan.statements row ≡ Some c → circuit_size c.circuit < 2 ^ 29
plan_size plan table row c sound belongs e =
    let small = rw e at (circuit_small (length plan.columns) table.rows plan.statements row (plan_rows plan table belongs) (plan_small plan sound) sound.few_columns sound.few_statements) in
    omega (arith, small)

pub plan_circuit : (plan : Plan) (table : Table) (row : RowName) (c : Coded) → IsSound plan → Belongs plan table → circuit_of (length plan.columns) table.rows plan.statements row ≡ Some c → IsCircuit c.circuit
plan_circuit plan table row c sound belongs e =
    let makes = rw e at (rows_circuits (length plan.columns) table.rows plan.statements row (plan_rows plan table belongs) (plan_in plan sound)) in
    makes (omega (arith, length_size c.circuit, plan_size plan table row c sound belongs e))

there : {X : Type 0} (xs : List X) (i : ℕ) → i < length xs → (x : X) × (slice_get xs i ≡ Some x)
there [] i h = absurd (omega (arith, h))
there (x ∷ xs) zero h = (x, refl)
there (x ∷ xs) (suc i) h = there xs i (omega (arith, h))

inserted_there : (width : ℕ) (statements : List Statement) (place : ℕ) → place < inserted_count statements → (c : Coded) × (inserted_coding width statements place ≡ Some c)
inserted_there width [] place h = absurd (omega (arith, h))
inserted_there width (Update sets filter ∷ statements) place h = inserted_there width statements place h
inserted_there width (Delete filter ∷ statements) place h = inserted_there width statements place h
inserted_there width (Insert columns tuples ∷ statements) place h =
    elim (cases_lt place (length tuples)) [
      | inl l ↦
          let found = there tuples place l in
          (coded statements (insert_coding width columns found.0), coding_here width (Insert columns tuples ∷ statements) columns tuples place found.0 statements refl found.1)
      | inr g ↦
          let more = inserted_there width statements (place - length tuples) (omega (arith, h, g)) in
          (more.0, coding_past width (Insert columns tuples ∷ statements) columns tuples place statements refl g ∙ more.1)
    ]

pub inserted_circuit : (plan : Plan) (table : Table) (k : ℕ) → IsSound plan → Belongs plan table → RowExists plan (Inserted k) → HasCircuit (inserted_coding (length plan.columns) plan.statements (k - 1))
inserted_circuit plan table k sound belongs exists =
    let found = inserted_there (length plan.columns) plan.statements (k - 1) (omega (arith, exists.0, exists.1, sound.inserted)) in
    rw found.1 (plan_circuit plan table (Inserted k) found.0 sound belongs found.1)

pub start_is : (plan : Plan) (table : Table) (k : ℕ) (cells : Cells) → slice_get table.rows (k - 1) ≡ Some cells → circuit_of (length plan.columns) table.rows plan.statements (Start k) ≡ Some (coded plan.statements (start_coding cells))
start_is plan table k cells got = rw got refl

-- ---- results

pub if_ok : {A E : Type 0} (r : Result A E) (P Q : A → Type 0) → ((x : A) → P x → Q x) → IfOk r P → IfOk r Q
if_ok (Ok x) P Q f h = f x h
if_ok (Err e) P Q f h = h
