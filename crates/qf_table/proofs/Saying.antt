-- Cells say their fields.
use Rattle.std.proofs.Common.{◌≡◌, ◌∙◌, ap, sym, refl, ℕ, ℤ, zero, suc, ◌+◌, ◌*◌, ◌≤◌, Bool, true, false, List, [], ◌∷◌, ◌++◌, length, Option, Some, None, option_map, Result, Ok, Err, slice_get, if◌then◌else◌, eqb-true, arith}
use Rattle.std.specs.List.{flat_map}
use Rattle.std.specs.Str.{is_utf8}
use Rattle.std.proofs.lemmas.Option.{none-some, same_Some}
use Rattle.qf_csv.specs.Records.{Record}
use Rattle.qf_ir.specs.Texts.{code_in, with_text, with_texts}
use Rattle.qf_ir.specs.declared.cell.Cell.{Cell}
use Rattle.qf_ir.specs.declared.cell.Cell.TheVariants as cell
use Rattle.qf_ir.specs.declared.table.Column.{Column}
use Rattle.qf_ir.specs.declared.table.ColumnKind.{ColumnKind}
use Rattle.qf_ir.specs.declared.table.ColumnKind.TheVariants.{Int, Text}
use Rattle.qf_table.specs.declared.fault.TableFault.{TableFault}
use Rattle.qf_table.specs.Faults.{in_front}
use Rattle.qf_table.specs.Tables.{number_of, cell_of, with_field, bad_cell, with_cell, cells_from, with_row, with_rows, with_cells, rows_from, first_uneven}
use Rattle.qf_table.specs.Meaning.{Says, with_field_text, text_fields}
use Rattle.qf_table.proofs.Coded.{Keeps, keeps-with, coded}
use Rattle.qf_table.proofs.Steps.{field_few, even_here}

-- ---- what was read, taken apart

pub record Fronted {X : Type 0} (all rest : List X) (first : X) (more : Result (List X) TableFault) : Type 0 where
  pub whole : all ≡ first ∷ rest
  pub others : more ≡ Ok rest

pub in_front-ok : {X : Type 0} (x : X) (more : Result (List X) TableFault) (all : List X) → in_front x more ≡ Ok all → (rest : List X) × Fronted all rest x more
in_front-ok x (Ok rest) all e = (rest, record { whole = cc; others = refl })
in_front-ok x (Err f) all e = cc

cell-ok : (o : Option Cell) (f : TableFault) (more : Result (List Cell) TableFault) (all : List Cell) → with_cell o f more ≡ Ok all
    → (c : Cell) × (rest : List Cell) × (o ≡ Some c) × Fronted all rest c more
cell-ok None f more all e = cc
cell-ok (Some c) f more all e = let h = in_front-ok c more all e in (c, h.0, refl, h.1)

row-ok : (first : Result (List Cell) TableFault) (more : Result (List (List Cell)) TableFault) (all : List (List Cell)) → with_cells first more ≡ Ok all
    → (cells : List Cell) × (rest : List (List Cell)) × (first ≡ Ok cells) × Fronted all rest cells more
row-ok (Err f) more all e = cc
row-ok (Ok cells) more all e = let h = in_front-ok cells more all e in (cells, h.0, refl, h.1)

-- ---- one field

says-kept : (k : ColumnKind) (texts others : List (List ℕ)) (c : Cell) (field : List ℕ) → Keeps texts others → Says texts k c field → Says others k c field
says-kept Int texts others (cell.Int z) field keeps says = says
says-kept Int texts others (cell.Text code) field keeps says = says
says-kept Text texts others (cell.Int z) field keeps says = says
says-kept Text texts others (cell.Text code) field keeps says = keeps code field says

number-says : (texts : List (List ℕ)) (field : List ℕ) (o : Option ℤ) (c : Cell) → number_of field ≡ o → option_map cell.Int o ≡ Some c → Says texts Int c field
number-says texts field None c e is = absurd (none-some c is)
number-says texts field (Some z) (cell.Int n) e is = let same : z ≡ n = cc in e ∙ ap (λ (x : ℤ). Some x) same
number-says texts field (Some z) (cell.Text code) e is = cc

text-says : (texts : List (List ℕ)) (field : List ℕ) (b : Bool) (c : Cell) → (if b then Some (cell.Text (code_in texts field)) else None) ≡ Some c → Says (with_text texts field) Text c field
text-says texts field true (cell.Int z) is = cc
text-says texts field true (cell.Text code) is =
    let same : code ≡ code_in texts field = cc in ap (λ (k : ℕ). slice_get (with_text texts field) k) same ∙ coded texts field
text-says texts field false c is = absurd (none-some c is)

field-says : (k : ColumnKind) (texts : List (List ℕ)) (field : List ℕ) (c : Cell) → cell_of k texts field ≡ Some c → Says (with_field k texts field) k c field
field-says Int texts field c e = number-says texts field (number_of field) c refl e
field-says Text texts field c e = text-says texts field (is_utf8 field) c e

keeps-field : (k : ColumnKind) (texts : List (List ℕ)) (field : List ℕ) → Keeps texts (with_field k texts field)
keeps-field Int texts field = λ code text got. got
keeps-field Text texts field = keeps-with texts field

keeps-row : (texts : List (List ℕ)) (columns : List Column) (fields : Record) → Keeps texts (with_row texts columns fields)
keeps-row texts [] fields = λ code text got. got
keeps-row texts (column ∷ columns) [] = λ code text got. got
keeps-row texts (column ∷ columns) (field ∷ fields) =
    λ code text got. keeps-row (with_field column.kind texts field) columns fields code text (keeps-field column.kind texts field code text got)

keeps-rows : (texts : List (List ℕ)) (columns : List Column) (records : List Record) → Keeps texts (with_rows texts columns records)
keeps-rows texts columns [] = λ code text got. got
keeps-rows texts columns (r ∷ rs) = λ code text got. keeps-rows (with_row texts columns r) columns rs code text (keeps-row texts columns r code text got)

-- ---- one record

abbrev pub CellsSay : List (List ℕ) → List Column → List Cell → Record → Type 0
CellsSay texts [] [] [] = Unit {0}
CellsSay texts (column ∷ columns) (c ∷ cells) (field ∷ fields) = Says texts column.kind c field × CellsSay texts columns cells fields
CellsSay texts _ _ _ = ⊥

none-more : {X : Type 0} (x : X) (xs : List X) → length (x ∷ xs) ≡ 0 → ⊥
none-more x xs e = omega arith

cells-say : (row number : ℕ) (texts : List (List ℕ)) (columns : List Column) (fields : Record) (cells : List Cell) → length fields ≡ length columns
    → cells_from row number texts columns fields ≡ Ok cells → CellsSay (with_row texts columns fields) columns cells fields
cells-say row number texts [] [] [] even e = tt
cells-say row number texts [] [] (c ∷ cells) even e = cc
cells-say row number texts [] (field ∷ fields) cells even e = absurd (none-more field fields even)
cells-say row number texts (column ∷ columns) [] cells even e = absurd (none-more column columns (sym even))
cells-say row number texts (column ∷ columns) (field ∷ fields) cells even e =
    let next = with_field column.kind texts field in
    let h = cell-ok (cell_of column.kind texts field) (bad_cell column.kind row number) (cells_from row (number + 1) next columns fields) cells e in
    let says = says-kept column.kind next (with_row next columns fields) h.0 field (keeps-row next columns fields) (field-says column.kind texts field h.0 h.2) in
    rw h.3.whole (says, cells-say row (number + 1) next columns fields h.1 (omega arith) h.3.others)

kept : (texts others : List (List ℕ)) (columns : List Column) (cells : List Cell) (fields : Record) → Keeps texts others → CellsSay texts columns cells fields → CellsSay others columns cells fields
kept texts others [] [] [] keeps says = says
kept texts others [] [] (field ∷ fields) keeps says = says
kept texts others [] (c ∷ cells) fields keeps says = says
kept texts others (column ∷ columns) [] fields keeps says = says
kept texts others (column ∷ columns) (c ∷ cells) [] keeps says = says
kept texts others (column ∷ columns) (c ∷ cells) (field ∷ fields) keeps says =
    (says-kept column.kind texts others c field keeps says.0, kept texts others columns cells fields keeps says.1)

-- ---- all records

abbrev pub RowsSay : List (List ℕ) → List Column → List (List Cell) → List Record → Type 0
RowsSay texts columns [] [] = Unit {0}
RowsSay texts columns [] (r ∷ rs) = ⊥
RowsSay texts columns (cells ∷ rows) [] = ⊥
RowsSay texts columns (cells ∷ rows) (r ∷ rs) = CellsSay texts columns cells r × RowsSay texts columns rows rs

pub rows-say : (number count : ℕ) (texts : List (List ℕ)) (columns : List Column) (records : List Record) (rows : List (List Cell)) → first_uneven (length columns) count records ≡ None
    → rows_from number texts columns records ≡ Ok rows → RowsSay (with_rows texts columns records) columns rows records
rows-say number count texts columns [] [] even e = tt
rows-say number count texts columns [] (cells ∷ rows) even e = cc
rows-say number count texts columns (r ∷ rs) rows even e =
    let next = with_row texts columns r in
    let h = row-ok (cells_from number 1 texts columns r) (rows_from (number + 1) next columns rs) rows e in
    let here = even_here (length columns) count r rs even in
    let says = kept next (with_rows next columns rs) columns h.0 r (keeps-rows next columns rs) (cells-say number 1 texts columns r h.0 (eqb-true (length r) (length columns) here.0) h.2) in
    rw h.3.whole (says, rows-say (number + 1) (count + 1) next columns rs h.1 here.1 h.3.others)

-- ---- place by place

pub length-rows : (texts : List (List ℕ)) (columns : List Column) (rows : List (List Cell)) (records : List Record) → RowsSay texts columns rows records → length rows ≡ length records
length-rows texts columns [] [] says = refl
length-rows texts columns [] (r ∷ rs) says = absurd says
length-rows texts columns (cells ∷ rows) [] says = absurd says
length-rows texts columns (cells ∷ rows) (r ∷ rs) says = ap suc (length-rows texts columns rows rs says.1)

cell-there : (texts : List (List ℕ)) (columns : List Column) (cells : List Cell) (fields : Record) (place : ℕ) (column : Column) (c : Cell) (field : List ℕ) → CellsSay texts columns cells fields
    → slice_get columns place ≡ Some column → slice_get cells place ≡ Some c → slice_get fields place ≡ Some field → Says texts column.kind c field
cell-there texts [] cells fields place column c field says a b d = absurd (none-some column a)
cell-there texts (x ∷ columns) [] fields place column c field says a b d = absurd (none-some c b)
cell-there texts (x ∷ columns) (y ∷ cells) [] place column c field says a b d = absurd (none-some field d)
cell-there texts (x ∷ columns) (y ∷ cells) (z ∷ fields) zero column c field says a b d =
    rw (← same_Some x column a, ← same_Some y c b, ← same_Some z field d) says.0
cell-there texts (x ∷ columns) (y ∷ cells) (z ∷ fields) (suc place) column c field says a b d =
    cell-there texts columns cells fields place column c field says.1 a b d

pub row-there : (texts : List (List ℕ)) (columns : List Column) (rows : List (List Cell)) (records : List Record) (row : ℕ) (cells : List Cell) → RowsSay texts columns rows records
    → slice_get rows row ≡ Some cells → (fields : Record) × (slice_get records row ≡ Some fields) × CellsSay texts columns cells fields
row-there texts columns [] records row cells says got = absurd (none-some cells got)
row-there texts columns (x ∷ rows) [] row cells says got = absurd says
row-there texts columns (x ∷ rows) (r ∷ rs) zero cells says got = let same = same_Some x cells got in rw (← same) (r, refl, says.0)
row-there texts columns (x ∷ rows) (r ∷ rs) (suc row) cells says got = row-there texts columns rows rs row cells says.1 got

pub said-there : (texts : List (List ℕ)) (columns : List Column) (rows : List (List Cell)) (records : List Record) (row place : ℕ) (cells : List Cell) (fields : Record) (column : Column) (c : Cell) (field : List ℕ)
    → RowsSay texts columns rows records → slice_get rows row ≡ Some cells → slice_get records row ≡ Some fields
    → slice_get columns place ≡ Some column → slice_get cells place ≡ Some c → slice_get fields place ≡ Some field → Says texts column.kind c field
said-there texts columns rows records row place cells fields column c field says at_row at_record at_column at_cell at_field =
    let h = row-there texts columns rows records row cells says at_row in
    let same = same_Some h.0 fields (sym h.1 ∙ at_record) in
    cell-there texts columns cells h.0 place column c field h.2 at_column at_cell (rw same at_field)

-- ---- the texts

with-append : (texts xs ys : List (List ℕ)) → with_texts texts (xs ++ ys) ≡ with_texts (with_texts texts xs) ys
with-append texts [] ys = refl
with-append texts (x ∷ xs) ys = with-append (with_text texts x) xs ys

field-texts : (k : ColumnKind) (texts : List (List ℕ)) (field : List ℕ) (others : List (List ℕ)) → with_texts (with_field k texts field) others ≡ with_texts texts (with_field_text k field others)
field-texts Int texts field others = refl
field-texts Text texts field others = refl

row-texts : (texts : List (List ℕ)) (columns : List Column) (fields : Record) → with_row texts columns fields ≡ with_texts texts (text_fields columns fields)
row-texts texts [] fields = refl
row-texts texts (column ∷ columns) [] = refl
row-texts texts (column ∷ columns) (field ∷ fields) =
    row-texts (with_field column.kind texts field) columns fields ∙ field-texts column.kind texts field (text_fields columns fields)

pub rows-texts : (texts : List (List ℕ)) (columns : List Column) (records : List Record) → with_rows texts columns records ≡ with_texts texts (flat_map (text_fields columns) records)
rows-texts texts columns [] = refl
rows-texts texts columns (r ∷ rs) =
    rows-texts (with_row texts columns r) columns rs
    ∙ ap (λ (ts : List (List ℕ)). with_texts ts (flat_map (text_fields columns) rs)) (row-texts texts columns r)
    ∙ sym (with-append texts (text_fields columns r) (flat_map (text_fields columns) rs))

row-few : (texts : List (List ℕ)) (columns : List Column) (fields : Record) → length (with_row texts columns fields) ≤ length texts + length columns
row-few texts [] fields = omega arith
row-few texts (column ∷ columns) [] = omega arith
row-few texts (column ∷ columns) (field ∷ fields) =
    let more = row-few (with_field column.kind texts field) columns fields in
    let few = field_few column.kind texts field in
    omega (arith, more, few)

pub rows-few : (texts : List (List ℕ)) (columns : List Column) (records : List Record) → length columns ≤ 32 → length (with_rows texts columns records) ≤ length texts + 32 * length records
rows-few texts columns [] few = omega arith
rows-few texts columns (r ∷ rs) few =
    let more = rows-few (with_row texts columns r) columns rs few in
    let here = row-few texts columns r in
    omega (arith, more, here)
