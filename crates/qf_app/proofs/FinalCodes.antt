-- The codes of final rows are places of the program's texts, so that the final table can be printed.
use Rattle.std.proofs.Common.{◌≡◌, ℕ, zero, suc, ◌+◌, ◌<◌, ◌≤◌, ℤ, pos, Bool, true, false, cond, List, [], ◌∷◌, ◌++◌, length, map, slice_get, slice_index_or, refl, sym, ap, subst, arith}
use Rattle.std.specs.Prelude.{◌+ℤ◌, slice_set, unwrap_or}
use Rattle.std.specs.declared.option.Option.{Option}
use Rattle.std.specs.declared.option.Option.TheVariants.{Some, None}
use Rattle.std.specs.List.{filter}
use Rattle.qf_base.specs.declared.names.RowName.{RowName}
use Rattle.qf_base.specs.declared.names.RowName.TheVariants.{Start, Inserted}
use Rattle.std.specs.Ordering.{int_eq}
use Rattle.qf_ir.specs.declared.ast.Atom.{Atom}
use Rattle.qf_ir.specs.declared.ast.Atom.TheVariants.{Column, Param}
use Rattle.qf_ir.specs.declared.ast.Cond.{Cond}
use Rattle.qf_ir.specs.declared.ast.Expr.{Expr}
use Rattle.qf_ir.specs.declared.ast.Expr.TheVariants.{Sum, Word}
use Rattle.qf_ir.specs.declared.ast.Statement.{Statement}
use Rattle.qf_ir.specs.declared.ast.Statement.TheVariants.{Update, Delete, Insert}
use Rattle.qf_ir.specs.declared.ast.Term.{Term}
use Rattle.qf_ir.specs.declared.cell.Cell.{Cell}
use Rattle.qf_ir.specs.declared.cell.Cell.TheVariants as cell
use Rattle.qf_ir.specs.declared.table.Column as table_column
use Rattle.qf_ir.specs.declared.table.ColumnKind.{ColumnKind}
use Rattle.qf_ir.specs.declared.table.ColumnKind.TheVariants as kind
use Rattle.qf_ir.specs.declared.table.Table.{Table}
use Rattle.qf_ir.specs.Plan.{Plan, IsSound, Belongs, scope_of, final_rows}
use Rattle.qf_ir.specs.Replay.{Row, with_sets, updated, place_of, inserted_cell, cells_from, named_rows, inserted_table, State, updated_row, stays, after_statement, after_statements}
use Rattle.qf_ir.specs.Tables.{CellIs, CellsAre, IsSoundTable}
use Rattle.qf_ir.specs.Typed.{Scope, HasKind, ItemFits, SetsTyped, ColumnsFilled, TuplesTyped, StatementTyped, StatementsTyped}
use Rattle.qf_ir.specs.Typed as typed
use Rattle.qf_ir.specs.Value.{Cells, Values, cell_at, is_met, term_value, column_cell, named_cell, sum_cell, cell_value}
use Rattle.qf_table.specs.Printing.{CellFits, CellsFit, RowsFit}

-- ---- rows of the table

cell_is_fit : (texts : List (List ℕ)) (k : ColumnKind) (n : ℕ) (c : Cell) → n ≤ length texts → CellIs k n c → CellFits texts c
cell_is_fit texts kind.Int n (cell.Int z) le h = tt
cell_is_fit texts kind.Int n (cell.Text code) le h = absurd h
cell_is_fit texts kind.Text n (cell.Int z) le h = tt
cell_is_fit texts kind.Text n (cell.Text code) le h = omega (arith, le, h)

cells_are_fit : (texts : List (List ℕ)) (columns : List table_column.Column) (n : ℕ) (cells : Cells) → n ≤ length texts → CellsAre columns n cells → CellsFit texts cells
cells_are_fit texts [] n [] le h = tt
cells_are_fit texts [] n (c ∷ cells) le h = absurd h
cells_are_fit texts (column ∷ columns) n [] le h = absurd h
cells_are_fit texts (column ∷ columns) n (c ∷ cells) le h = (cell_is_fit texts column.kind n c le h.0, cells_are_fit texts columns n cells le h.1)

abbrev EachFits : List (List ℕ) → List Cells → Type 0
EachFits texts rows = (place : ℕ) (cells : Cells) → slice_get rows place ≡ Some cells → CellsFit texts cells

named_fit : (texts : List (List ℕ)) (name : ℕ → RowName) (before : ℕ) (rows : List Cells) → EachFits texts rows → RowsFit texts (named_rows name before rows)
named_fit texts name before [] each = tt
named_fit texts name before (cells ∷ rows) each = (each 0 cells refl, named_fit texts name (before + 1) rows (λ place. each (suc place)))

-- ---- what a column becomes

-- the code of a word is a place of a text
abbrev ExprFits : List (List ℕ) → Expr → Type 0
ExprFits texts (Sum terms) = Unit {0}
ExprFits texts (Word code) = code < length texts

cell_at_fits : (texts : List (List ℕ)) (cells : Cells) (column : ℕ) → CellsFit texts cells → CellFits texts (cell_at cells column)
cell_at_fits texts [] column h = tt
cell_at_fits texts (c ∷ cells) zero h = h.0
cell_at_fits texts (c ∷ cells) (suc column) h = cell_at_fits texts cells column h.1

or_number : (texts : List (List ℕ)) (o : Option Cell) (z : ℤ) → ((c : Cell) → o ≡ Some c → CellFits texts c) → CellFits texts (unwrap_or o (cell.Int z))
or_number texts None z h = tt
or_number texts (Some c) z h = h c refl

some_is : (a b : Cell) → Some a ≡ Some b → a ≡ b
some_is a b e = cc

none_is : (b : Cell) (o : Option Cell) → o ≡ None → o ≡ Some b → ⊥
none_is b o none some = cc

column_fits : (texts : List (List ℕ)) (a : Atom) (cells : Cells) → CellsFit texts cells → (c : Cell) → column_cell a cells ≡ Some c → CellFits texts c
column_fits texts (Column k) cells h c e = subst (CellFits texts) (some_is (cell_at cells k) c e) (cell_at_fits texts cells k h)
column_fits texts (Param k) cells h c e = absurd (none_is c None refl e)

picked_fits : (texts : List (List ℕ)) (b : Bool) (o : Option Cell) → ((c : Cell) → o ≡ Some c → CellFits texts c) → (c : Cell) → cond b o None ≡ Some c → CellFits texts c
picked_fits texts true o h c e = h c e
picked_fits texts false o h c e = absurd (none_is c None refl e)

named_fits : (texts : List (List ℕ)) (t : Term) (cells : Cells) → CellsFit texts cells → (c : Cell) → named_cell t cells ≡ Some c → CellFits texts c
named_fits texts t cells h = picked_fits texts (int_eq t.factor (pos 1)) (column_cell t.atom cells) (column_fits texts t.atom cells h)

sum_fits : (texts : List (List ℕ)) (terms : List Term) (cells : Cells) (point : Values) → CellsFit texts cells → CellFits texts (sum_cell terms cells point)
sum_fits texts [] cells point h = tt
sum_fits texts (t ∷ []) cells point h = or_number texts (named_cell t cells) (term_value t cells point +ℤ pos 0) (named_fits texts t cells h)
sum_fits texts (t ∷ u ∷ ts) cells point h = tt

value_fits : (texts : List (List ℕ)) (e : Expr) (cells : Cells) (point : Values) → ExprFits texts e → CellsFit texts cells → CellFits texts (cell_value e cells point)
value_fits texts (Sum terms) cells point k h = sum_fits texts terms cells point h
value_fits texts (Word code) cells point k h = k

-- ---- UPDATE

set_fits : (texts : List (List ℕ)) (cells : Cells) (i : ℕ) (c : Cell) → CellFits texts c → CellsFit texts cells → CellsFit texts (slice_set cells i c)
set_fits texts [] i c k h = tt
set_fits texts (d ∷ cells) zero c k h = (k, h.1)
set_fits texts (d ∷ cells) (suc i) c k h = (h.0, set_fits texts cells i c k h.1)

abbrev SetsFit : List (List ℕ) → List (ℕ × Expr) → Type 0
SetsFit texts [] = Unit {0}
SetsFit texts (s ∷ sets) = ExprFits texts s.1 × SetsFit texts sets

sets_fit : (texts : List (List ℕ)) (sets : List (ℕ × Expr)) (before : Cells) (point : Values) (cells : Cells) → SetsFit texts sets → CellsFit texts before → CellsFit texts cells → CellsFit texts (with_sets sets before point cells)
sets_fit texts [] before point cells k h now = now
sets_fit texts (s ∷ sets) before point cells k h now =
    sets_fit texts sets before point (slice_set cells s.0 (cell_value s.1 before point)) k.1 h
    (set_fits texts cells s.0 (cell_value s.1 before point) (value_fits texts s.1 before point k.0 h) now)

either_fits : (texts : List (List ℕ)) (b : Bool) (a c : Cells) → CellsFit texts a → CellsFit texts c → CellsFit texts (cond b a c)
either_fits texts true a c h k = h
either_fits texts false a c h k = k

updated_fits : (texts : List (List ℕ)) (sets : List (ℕ × Expr)) (where_ : Option Cond) (cells : Cells) (point : Values) → SetsFit texts sets → CellsFit texts cells → CellsFit texts (updated sets where_ cells point)
updated_fits texts sets where_ cells point k h =
    either_fits texts (is_met where_ cells point) (with_sets sets cells point cells) cells (sets_fit texts sets cells point cells k h h) h

rows_updated : (texts : List (List ℕ)) (sets : List (ℕ × Expr)) (where_ : Option Cond) (point : Values) (rows : List Row) → SetsFit texts sets → RowsFit texts rows → RowsFit texts (map (updated_row sets where_ point) rows)
rows_updated texts sets where_ point [] k h = tt
rows_updated texts sets where_ point (row ∷ rows) k h = (updated_fits texts sets where_ row.1 point k h.0, rows_updated texts sets where_ point rows k h.1)

-- ---- DELETE

kept_fit : (texts : List (List ℕ)) (b : Bool) (row : Row) (rows : List Row) → CellsFit texts row.1 → RowsFit texts rows → RowsFit texts (cond b (row ∷ rows) rows)
kept_fit texts true row rows h k = (h, k)
kept_fit texts false row rows h k = k

rows_kept : (texts : List (List ℕ)) (keeps : Row → Bool) (rows : List Row) → RowsFit texts rows → RowsFit texts (filter keeps rows)
rows_kept texts keeps [] h = tt
rows_kept texts keeps (row ∷ rows) h = kept_fit texts (keeps row) row (filter keeps rows) h.0 (rows_kept texts keeps rows h.1)

-- ---- INSERT

got_item : (items : List Expr) (p : ℕ) (item : Expr) → slice_get items p ≡ Some item → slice_index_or items p (Word 0) ≡ item
got_item [] p item got = absurd (cc)
got_item (x ∷ items) zero item got = cc
got_item (x ∷ items) (suc p) item got = got_item items p item got

kind_fits : (scope : Scope) (k : ColumnKind) (e : Expr) → HasKind scope k e → (texts : List (List ℕ)) → scope.texts ≡ length texts → ExprFits texts e
kind_fits scope k (Sum terms) h texts same = tt
kind_fits scope kind.Int (Word code) h texts same = absurd h
kind_fits scope kind.Text (Word code) h texts same = subst (λ (n : ℕ). code < n) same h

filled_fit : (scope : Scope) (texts : List (List ℕ)) (columns : List ℕ) (tuple : List Expr) (point : Values) (first : ℕ) (kinds : List ColumnKind)
    → scope.texts ≡ length texts → ColumnsFilled scope columns tuple first kinds → CellsFit texts (cells_from first (length kinds) (inserted_cell columns tuple point))
filled_fit scope texts columns tuple point first [] same h = tt
filled_fit scope texts columns tuple point first (k ∷ kinds) same h =
    let item = h.0 in
    let is : slice_index_or tuple (place_of columns first) (Word 0) ≡ item.0 = got_item tuple (place_of columns first) item.0 item.1 in
    let fits : CellFits texts (cell_value item.0 [] point) = value_fits texts item.0 [] point (kind_fits scope k item.0 item.3 texts same) tt in
    (subst (λ (e : Expr). CellFits texts (cell_value e [] point)) (sym is) fits, filled_fit scope texts columns tuple point (first + 1) kinds same h.1)

abbrev AllFit : List (List ℕ) → List Cells → Type 0
AllFit texts [] = Unit {0}
AllFit texts (cells ∷ rows) = CellsFit texts cells × AllFit texts rows

tuples_fit : (scope : Scope) (texts : List (List ℕ)) (columns : List ℕ) (tuples : List (List Expr)) (point : Values)
    → scope.texts ≡ length texts → TuplesTyped scope columns tuples → AllFit texts (inserted_table (length scope.kinds) columns tuples point)
tuples_fit scope texts columns [] point same h = tt
tuples_fit scope texts columns (tuple ∷ tuples) point same h =
    (filled_fit scope texts columns tuple point 0 scope.kinds same h.0, tuples_fit scope texts columns tuples point same h.1)

all_named : (texts : List (List ℕ)) (name : ℕ → RowName) (before : ℕ) (rows : List Cells) → AllFit texts rows → RowsFit texts (named_rows name before rows)
all_named texts name before [] h = tt
all_named texts name before (cells ∷ rows) h = (h.0, all_named texts name (before + 1) rows h.1)

rows_joined : (texts : List (List ℕ)) (a b : List Row) → RowsFit texts a → RowsFit texts b → RowsFit texts (a ++ b)
rows_joined texts [] b h k = k
rows_joined texts (row ∷ a) b h k = (h.0, rows_joined texts a b h.1 k)

-- ---- the whole log

set_in_kind : (scope : Scope) (texts : List (List ℕ)) (o : Option ColumnKind) (e : Expr) → scope.texts ≡ length texts → typed.Fits scope o e → ExprFits texts e
set_in_kind scope texts None e same h = absurd h
set_in_kind scope texts (Some k) e same h = kind_fits scope k e h texts same

sets_typed_fit : (scope : Scope) (texts : List (List ℕ)) (sets : List (ℕ × Expr)) → scope.texts ≡ length texts → SetsTyped scope sets → SetsFit texts sets
sets_typed_fit scope texts [] same h = tt
sets_typed_fit scope texts (s ∷ sets) same h =
    (set_in_kind scope texts (slice_get scope.kinds s.0) s.1 same h.0, sets_typed_fit scope texts sets same h.2)

after_one : (scope : Scope) (texts : List (List ℕ)) (point : Values) (s : Statement) (state : State)
    → scope.texts ≡ length texts → StatementTyped scope s → RowsFit texts state.rows → RowsFit texts (after_statement (length scope.kinds) point s state).rows
after_one scope texts point (Update sets where_) state same h rows = rows_updated texts sets where_ point state.rows (sets_typed_fit scope texts sets same h.0) rows
after_one scope texts point (Delete where_) state same h rows = rows_kept texts (stays where_ point) state.rows rows
after_one scope texts point (Insert columns tuples) state same h rows =
    rows_joined texts state.rows (named_rows (λ k. Inserted k) state.inserted (inserted_table (length scope.kinds) columns tuples point)) rows
    (all_named texts (λ k. Inserted k) state.inserted (inserted_table (length scope.kinds) columns tuples point) (tuples_fit scope texts columns tuples point same h))

after_all : (scope : Scope) (texts : List (List ℕ)) (point : Values) (statements : List Statement) (state : State)
    → scope.texts ≡ length texts → StatementsTyped scope statements → RowsFit texts state.rows → RowsFit texts (after_statements (length scope.kinds) point statements state).rows
after_all scope texts point [] state same h rows = rows
after_all scope texts point (s ∷ statements) state same h rows =
    after_all scope texts point statements (after_statement (length scope.kinds) point s state) same h.1 (after_one scope texts point s state same h.0 rows)

few_more : (a : List (List ℕ)) (b : List (List ℕ)) → length a ≤ length (a ++ b)
few_more [] b = omega arith
few_more (x ∷ a) b = let h = few_more a b in omega (arith, h)

kinds_many : (columns : List table_column.Column) → length (map (λ (c : table_column.Column). c.kind) columns) ≡ length columns
kinds_many [] = refl
kinds_many (c ∷ columns) = ap suc (kinds_many columns)

pub final_rows_fit : (plan : Plan) (table : Table) (point : Values) → IsSoundTable table → IsSound plan → Belongs plan table → RowsFit plan.texts (final_rows plan table point)
final_rows_fit plan table point sound is belongs =
    let le : length table.texts ≤ length plan.texts = subst (λ (t : List (List ℕ)). length table.texts ≤ length t) (sym belongs.texts.1) (few_more table.texts belongs.texts.0) in
    let each : EachFits plan.texts table.rows = λ place cells got. cells_are_fit plan.texts table.columns (length table.texts) cells le (sound.rows place cells got) in
    let start : RowsFit plan.texts (named_rows (λ k. Start k) 0 table.rows) = named_fit plan.texts (λ k. Start k) 0 table.rows each in
    subst (λ (width : ℕ). RowsFit plan.texts (after_statements width point plan.statements (record { rows = named_rows (λ k. Start k) 0 table.rows; inserted = 0 })).rows)
    (kinds_many plan.columns)
    (after_all (scope_of plan) plan.texts point plan.statements (record { rows = named_rows (λ k. Start k) 0 table.rows; inserted = 0 }) refl is.typed start)
