-- What the circuit of a row of a sound program ends with.
use Rattle.std.proofs.Common.{◌≡◌, ℕ, zero, suc, ◌-◌, ◌<◌, Bool, true, false, List, [], ◌∷◌, length, slice_get, slice_index_or, ℤ, if◌then◌else◌, arith, refl, ◌∙◌}
use Rattle.std.specs.declared.option.Option.{Option}
use Rattle.std.specs.declared.option.Option.TheVariants.{Some, None}
use Rattle.qf_base.specs.declared.names.RowName.{RowName}
use Rattle.qf_base.specs.declared.names.RowName.TheVariants.{Start, Inserted}
use Rattle.qf_base.specs.Values.{value_of_var}
use Rattle.qf_circuit.specs.Circuits.{truth, eval}
use Rattle.qf_ir.specs.declared.ast.Expr.{Expr}
use Rattle.qf_ir.specs.declared.ast.Statement.{Statement}
use Rattle.qf_ir.specs.declared.ast.Statement.TheVariants.{Update, Delete, Insert}
use Rattle.qf_ir.specs.declared.cell.Outcome.TheVariants.{Gone, There}
use Rattle.qf_ir.specs.declared.table.Table.{Table}
use Rattle.qf_ir.specs.Value.{Cells, number_of, cell_at}
use Rattle.qf_ir.specs.Life.{Birth, last_moment, ending_of, birth}
use Rattle.qf_ir.specs.Plan.{Plan, IsSound, Belongs, RowExists, final_outcome}
use Rattle.qf_ir.proofs.History.{outcome-start, outcome-inserted}
use Rattle.qf_encode.specs.declared.coded.Coded.{Coded}
use Rattle.qf_encode.specs.Coding.{coded_after, coded, start_coding, start_coding_or, insert_coding, insert_coding_or, coded_or, inserted_coding, circuit_of}
use Rattle.qf_encode.specs.Lives.{RowsIn, CodesBirth, CodesOutcome, NamesDefinitions}
use Rattle.qf_encode.proofs.Statements.{coding_width, start_follows}
use Rattle.qf_encode.proofs.Inserted.{FollowsBirth, circuit_follows_birth, circuit_codes}
use Rattle.qf_encode.proofs.RowBirths.{items_length, plan_rows}
use Rattle.qf_encode.proofs.Sound.{plan_in}

-- ---- as many columns as the table has

coded_width : (statements : List Statement) (c : Coded) → length (coded statements c).columns ≡ length c.columns
coded_width [] c = refl
coded_width (s ∷ statements) c = coded_width statements (coded_after s c) ∙ coding_width s c

abbrev HasWidth : ℕ → Option Coded → Type 0
HasWidth width None = Unit {0}
HasWidth width (Some c) = length c.columns ≡ width

inserted_width : (width : ℕ) (statements : List Statement) (place : ℕ) → HasWidth width (inserted_coding width statements place)
inserted_width width [] place = tt
inserted_width width (Update sets filter ∷ statements) place = inserted_width width statements place
inserted_width width (Delete filter ∷ statements) place = inserted_width width statements place
inserted_width width (Insert columns tuples ∷ statements) place = by_tuple (slice_get tuples place) (inserted_width width statements (place - length tuples))
  where
    by_tuple : (got : Option (List Expr)) → HasWidth width (inserted_coding width statements (place - length tuples)) → HasWidth width (coded_or (insert_coding_or width columns got) statements (inserted_coding width statements (place - length tuples)))
    by_tuple None more = more
    by_tuple (Some tuple) more = coded_width statements (insert_coding width columns tuple) ∙ items_length columns tuple width 0 []

started_width : (width : ℕ) (statements : List Statement) (table : List Cells) (place : ℕ) → RowsIn width table → HasWidth width (coded_or (start_coding_or (slice_get table place)) statements None)
started_width width statements [] place r = tt
started_width width statements (cells ∷ table) zero r = coded_width statements (start_coding cells) ∙ (start_follows [] cells).same_length ∙ r.0
started_width width statements (cells ∷ table) (suc place) r = started_width width statements table place r.1

circuit_width : (width : ℕ) (table : List Cells) (statements : List Statement) (row : RowName) → RowsIn width table → HasWidth width (circuit_of width table statements row)
circuit_width width table statements (Start k) r = started_width width statements table (k - 1) r
circuit_width width table statements (Inserted k) r = inserted_width width statements (k - 1)

names_by : (width : ℕ) (c : Coded) (b : Option Birth) → length c.columns ≡ width → FollowsBirth [] (Some c) b → NamesDefinitions width c
names_by width c None e h = absurd h
names_by width c (Some b) e h = record {
  columns = e;
  each = λ column inside. let own = h.cells column (omega (arith, inside, e, h.same_length)) in (own.0, own.1);
  live = (h.live.0, h.live.1);
}

pub plan_names : (plan : Plan) (table : Table) (row : RowName) (c : Coded) → IsSound plan → Belongs plan table → circuit_of (length plan.columns) table.rows plan.statements row ≡ Some c → NamesDefinitions (length plan.columns) c
plan_names plan table row c sound belongs e =
    let rows = plan_rows plan table belongs in
    let follows = circuit_follows_birth [] (length plan.columns) table.rows plan.statements row rows (plan_in plan sound) in
    let width = circuit_width (length plan.columns) table.rows plan.statements row rows in
    names_by (length plan.columns) c (birth (length plan.columns) table.rows plan.statements row []) (rw e at width) (rw e at follows)

-- ---- the last moment and the outcome

pub plan_lives : (plan : Plan) (table : Table) (row : RowName) (c : Coded) (point : List ℤ) → IsSound plan → Belongs plan table → circuit_of (length plan.columns) table.rows plan.statements row ≡ Some c → CodesBirth point (Some c) (birth (length plan.columns) table.rows plan.statements row point)
plan_lives plan table row c point sound belongs e =
    rw e at (circuit_codes point (length plan.columns) table.rows plan.statements row (plan_rows plan table belongs) (plan_in plan sound))

moment_by : (point : List ℤ) (c : Coded) (cells : Cells) (live : Bool) → length c.columns ≡ length cells → ((column : ℕ) → column < length cells → value_of_var (eval point c.circuit) (slice_index_or c.columns column 0) ≡ number_of (cell_at cells column)) → value_of_var (eval point c.circuit) c.live ≡ truth live → CodesOutcome point c (if live then There cells else Gone)
moment_by point c cells true same each live = (live, (same, each))
moment_by point c cells false same each live = live

birth_outcome : (point : List ℤ) (c : Coded) (b : Option Birth) → CodesBirth point (Some c) b → CodesOutcome point c (ending_of b point)
birth_outcome point c None h = absurd h
birth_outcome point c (Some b) h =
    let m = last_moment point b.rest b.first in
    moment_by point c m.cells m.live h.same_length h.cells h.live

outcome_is : (plan : Plan) (table : Table) (row : RowName) (point : List ℤ) → RowExists plan row → final_outcome plan table row point ≡ ending_of (birth (length plan.columns) table.rows plan.statements row point) point
outcome_is plan table (Start k) point exists = outcome-start (length plan.columns) table.rows plan.statements k point exists.0
outcome_is plan table (Inserted k) point exists = outcome-inserted (length plan.columns) table.rows plan.statements k point exists.0

pub plan_outcomes : (plan : Plan) (table : Table) (row : RowName) (c : Coded) (point : List ℤ) → IsSound plan → Belongs plan table → RowExists plan row → circuit_of (length plan.columns) table.rows plan.statements row ≡ Some c → CodesOutcome point c (final_outcome plan table row point)
plan_outcomes plan table row c point sound belongs exists e =
    let is = outcome_is plan table row point exists in
    rw is (birth_outcome point c (birth (length plan.columns) table.rows plan.statements row point) (plan_lives plan table row c point sound belongs e))
