-- The circuit of any row that exists follows its life, from its birth on.
use Rattle.std.proofs.Common.{◌≡◌, ℕ, suc, zero, ◌+◌, ◌-◌, ◌<◌, List, [], ◌∷◌, ◌++◌, length, map, slice_index_or, slice_get, ℤ, pos, arith, refl, ap, ◌∙◌}
use Rattle.std.specs.declared.option.Option.{Option}
use Rattle.std.specs.declared.option.Option.TheVariants.{Some, None}
use Rattle.std.proofs.lemmas.Int.{ints}
use Rattle.qf_base.specs.declared.names.RowName.{RowName}
use Rattle.qf_base.specs.declared.names.RowName.TheVariants.{Start, Inserted}
use Rattle.qf_base.specs.Values.{value_of_var}
use Rattle.qf_circuit.specs.declared.circuit.Def.TheVariants as def
use Rattle.qf_ir.specs.declared.cell.Cell.{Cell}
use Rattle.qf_ir.specs.declared.ast.Expr.{Expr}
use Rattle.qf_ir.specs.declared.ast.Expr.TheVariants.{Sum, Word}
use Rattle.qf_ir.specs.declared.ast.Statement.{Statement}
use Rattle.qf_ir.specs.declared.ast.Statement.TheVariants.{Update, Delete, Insert}
use Rattle.qf_ir.specs.Value.{Cells, number_of, cell_at, cell_value}
use Rattle.qf_ir.specs.Replay.{place_of, inserted_cell, cells_from, inserted_cells, inserted_table}
use Rattle.qf_ir.specs.Life.{Moment, Birth, last_moment, first_moment, born_or, inserted_birth, birth}
use Rattle.qf_ir.specs.Typed.{IsItem}
use Rattle.qf_encode.specs.declared.coded.Coded.{Coded}
use Rattle.qf_encode.specs.Coding.{Defs, with_param, param_number, made_item, made_items, insert_coding, insert_coding_or, coded_or, start_coding, start_coding_or, inserted_coding, circuit_of}
use Rattle.qf_encode.specs.Lives.{FilledBy, TuplesIn, StatementsIn, RowsIn, CodesMoment, CodesBirth}
use Rattle.qf_encode.proofs.Extending.{Later, later_itself, later_made, later_trans, Codes, codes_later, codes_made, param_codes, with_param_has, with_param_later}
use Rattle.qf_encode.proofs.Following.{ColumnsCode}
use Rattle.qf_encode.proofs.Statements.{CodeNumbers, cell_number, Follows, coded_follows, start_follows}

-- ---- items

param_item : (point : List ℤ) (defs : Defs) (k : ℕ) → Later defs (with_param defs k) × Codes point (with_param defs k) (param_number (with_param defs k) k) (value_of_var point k)
param_item point defs k = (with_param_later defs k, param_codes point (with_param defs k) k (with_param_has defs k))

item_makes : (point : List ℤ) (defs : Defs) (e : Expr) → IsItem e → Later defs (made_item defs e).0 × Codes point (made_item defs e).0 (made_item defs e).1 (number_of (cell_value e [] point))
item_makes point defs (Word code) h = (later_made defs (def.Const (pos code)), codes_made point defs (def.Const (pos code)))
item_makes point defs (Sum []) h = absurd h
item_makes point defs (Sum (t ∷ [])) h =
    let e : number_of (cell_value (Sum (t ∷ [])) [] point) ≡ value_of_var point h.1.0 = cell_number (Sum (t ∷ [])) [] point ∙ rw (h.0, h.1.1) (omega (arith, ints)) in
    rw (e, h.1.1) (param_item point defs h.1.0)
item_makes point defs (Sum (t ∷ u ∷ ts)) h = absurd h

items_make : (point : List ℤ) (columns : List ℕ) (tuple : List Expr) (n first : ℕ) (defs : Defs) → ((column : ℕ) → column < first + n → IsItem (slice_index_or tuple (place_of columns column) (Word 0))) → Later defs (made_items columns tuple defs first n).0 × CodeNumbers point (made_items columns tuple defs first n).0 (made_items columns tuple defs first n).1 (map number_of (cells_from first n (inserted_cell columns tuple point)))
items_make point columns tuple zero first defs h = (later_itself defs, tt)
items_make point columns tuple (suc n) first defs h =
    let e = slice_index_or tuple (place_of columns first) (Word 0) in
    let item = made_item defs e in
    let one = item_makes point defs e (h first (omega arith)) in
    let rest = made_items columns tuple item.0 (first + 1) n in
    let more = items_make point columns tuple n (first + 1) item.0 (λ column inside. h column (omega (arith, inside))) in
    (later_trans defs item.0 rest.0 one.0 more.0, (codes_later point item.0 rest.0 item.1 (number_of (cell_value e [] point)) more.0 one.1, more.1))

numbers_at : (point : List ℤ) (defs : Defs) (ns : List ℕ) (cells : Cells) → CodeNumbers point defs ns (map number_of cells) → (length ns ≡ length cells) × ColumnsCode point cells ns defs
numbers_at point defs [] [] h = (refl, λ c inside. absurd (omega (arith, inside)))
numbers_at point defs [] (cell ∷ cells) h = absurd h
numbers_at point defs (n ∷ ns) [] h = absurd h
numbers_at point defs (n ∷ ns) (cell ∷ cells) h =
    let more = numbers_at point defs ns cells h.1 in
    (ap suc more.0, at_place point defs n ns cell cells h.0 more.1)
  where
    at_place : (point : List ℤ) (defs : Defs) (n : ℕ) (ns : List ℕ) (cell : Cell) (cells : Cells) → Codes point defs n (number_of cell) → ColumnsCode point cells ns defs → ColumnsCode point (cell ∷ cells) (n ∷ ns) defs
    at_place point defs n ns cell cells h k zero inside = h
    at_place point defs n ns cell cells h k (suc c) inside = k c (omega (arith, inside))

pub cells_width : (first n : ℕ) (cell : ℕ → Cell) → length (cells_from first n cell) ≡ n
cells_width first zero cell = refl
cells_width first (suc n) cell = ap suc (cells_width (first + 1) n cell)

pub insert_follows : (point : List ℤ) (width : ℕ) (columns : List ℕ) (tuple : List Expr) → FilledBy width columns tuple → Follows point (insert_coding width columns tuple) (first_moment (inserted_cells width columns tuple point))
insert_follows point width columns tuple h =
    let m = made_items columns tuple [] 0 width in
    let items = items_make point columns tuple width 0 [] (λ column inside. h column (omega (arith, inside))) in
    let at = numbers_at point m.0 m.1 (inserted_cells width columns tuple point) items.1 in
    record {
      same_length = at.0;
      cells = λ c inside. codes_later point m.0 (m.0 ++ def.Const (pos 1) ∷ []) (slice_index_or m.1 c 0) (number_of (cell_at (inserted_cells width columns tuple point) c)) (later_made m.0 (def.Const (pos 1))) (at.1 c inside);
      live = codes_made point m.0 (def.Const (pos 1));
    }

-- ---- births

-- where a row is born there is a circuit, which follows the row's life
abbrev pub FollowsBirth : List ℤ → Option Coded → Option Birth → Type 0
FollowsBirth point None None = Unit {0}
FollowsBirth point None (Some b) = ⊥
FollowsBirth point (Some c) None = ⊥
FollowsBirth point (Some c) (Some b) = Follows point c (last_moment point b.rest b.first)

moment_of : (point : List ℤ) (c : Coded) (m : Moment) → Follows point c m → CodesMoment point c m
moment_of point c m f = record { same_length = f.same_length; cells = λ k inside. (f.cells k inside).2; live = f.live.2 }

tuple_codes : (point : List ℤ) (width : ℕ) (columns : List ℕ) (statements : List Statement) (tuples : List (List Expr)) (place : ℕ) (other : Option Coded) (other_birth : Option Birth) → TuplesIn width columns tuples → StatementsIn width statements → FollowsBirth point other other_birth → FollowsBirth point (coded_or (insert_coding_or width columns (slice_get tuples place)) statements other) (born_or (slice_get (inserted_table width columns tuples point) place) statements other_birth)
tuple_codes point width columns statements [] place other other_birth h i k = k
tuple_codes point width columns statements (tuple ∷ tuples) zero other other_birth h i k =
    let cells = inserted_cells width columns tuple point in
    let wide : length cells ≡ width = cells_width 0 width (inserted_cell columns tuple point) in
    coded_follows point statements (insert_coding width columns tuple) (first_moment cells) (rw wide i) (insert_follows point width columns tuple h.0)
tuple_codes point width columns statements (tuple ∷ tuples) (suc place) other other_birth h i k =
    tuple_codes point width columns statements tuples place other other_birth h.1 i k

inserted_codes : (point : List ℤ) (width : ℕ) (statements : List Statement) (place : ℕ) → StatementsIn width statements → FollowsBirth point (inserted_coding width statements place) (inserted_birth width point statements place)
inserted_codes point width [] place i = tt
inserted_codes point width (Update sets filter ∷ statements) place i = inserted_codes point width statements place i.1
inserted_codes point width (Delete filter ∷ statements) place i = inserted_codes point width statements place i.1
inserted_codes point width (Insert columns tuples ∷ statements) place i =
    tuple_codes point width columns statements tuples place (inserted_coding width statements (place - length tuples)) (inserted_birth width point statements (place - length tuples)) i.0 i.1 (inserted_codes point width statements (place - length tuples) i.1)

start_codes : (point : List ℤ) (width : ℕ) (statements : List Statement) (table : List Cells) (place : ℕ) → RowsIn width table → StatementsIn width statements → FollowsBirth point (coded_or (start_coding_or (slice_get table place)) statements None) (born_or (slice_get table place) statements None)
start_codes point width statements [] place h i = tt
start_codes point width statements (cells ∷ table) zero h i =
    let wide : length cells ≡ width = h.0 in
    coded_follows point statements (start_coding cells) (first_moment cells) (rw wide i) (start_follows point cells)
start_codes point width statements (cells ∷ table) (suc place) h i = start_codes point width statements table place h.1 i

pub circuit_follows_birth : (point : List ℤ) (width : ℕ) (table : List Cells) (statements : List Statement) (name : RowName) → RowsIn width table → StatementsIn width statements → FollowsBirth point (circuit_of width table statements name) (birth width table statements name point)
circuit_follows_birth point width table statements (Start k) h i = start_codes point width statements table (k - 1) h i
circuit_follows_birth point width table statements (Inserted k) h i = inserted_codes point width statements (k - 1) i

codes_birth : (point : List ℤ) (o : Option Coded) (b : Option Birth) → FollowsBirth point o b → CodesBirth point o b
codes_birth point None None h = h
codes_birth point None (Some b) h = h
codes_birth point (Some c) None h = h
codes_birth point (Some c) (Some b) h = moment_of point c (last_moment point b.rest b.first) h

pub circuit_codes : (point : List ℤ) (width : ℕ) (table : List Cells) (statements : List Statement) (name : RowName) → RowsIn width table → StatementsIn width statements → CodesBirth point (circuit_of width table statements name) (birth width table statements name point)
circuit_codes point width table statements name h i =
    codes_birth point (circuit_of width table statements name) (birth width table statements name point) (circuit_follows_birth point width table statements name h i)
