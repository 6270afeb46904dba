-- What bytes are read as is a sound table, which says its records.
use Rattle.std.proofs.Common.{◌≡◌, ◌∙◌, ap, sym, refl, subst, ℕ, suc, ◌+◌, ◌^◌, ◌≤◌, Bool, true, false, ◌&&◌, ◌||◌, if◌then◌else◌, List, [], ◌∷◌, ◌++◌, length, map, Option, Some, None, option_and_then, Result, Ok, Err, append_assoc, arith}
use Rattle.std.specs.Prelude.{ℤ, pos, neg_ℤ, ◌≤ℤ◌, int_le, nat_lt, IfOk}
use Rattle.std.specs.List.{list_any, flat_map}
use Rattle.std.proofs.lemmas.Bool.{false≢true}
use Rattle.std.proofs.lemmas.Bool.Decides.{nat_tests}
use Rattle.std.proofs.lemmas.Int.{ints}
use Rattle.std.proofs.lemmas.List.{append-nil}
use Rattle.std.proofs.lemmas.Option.{none-some, same_Some, slice_get_within}
use Rattle.qf_csv.specs.Records.{Record}
use Rattle.qf_csv.specs.Numerals.{numeral_of, within}
use Rattle.qf_ir.specs.Fits.{Small}
use Rattle.qf_ir.specs.Texts.{is_text, AreDistinct}
use Rattle.qf_ir.specs.Tables.{names_of, CellIs, CellsAre, IsSoundTable}
use Rattle.qf_ir.specs.declared.cell.Cell.{Cell}
use Rattle.qf_ir.specs.declared.cell.Cell.TheVariants as cell
use Rattle.qf_ir.specs.declared.table.Column.{Column}
use Rattle.qf_ir.specs.declared.table.ColumnKind.{ColumnKind}
use Rattle.qf_ir.specs.declared.table.ColumnKind.TheVariants.{Int, Text}
use Rattle.qf_ir.specs.declared.table.Table.{Table}
use Rattle.qf_ir.proofs.Codes.{distinct-with}
use Rattle.qf_ir.proofs.Joining.{distinct-with-all}
use Rattle.qf_table.specs.declared.header.Heading.{Heading}
use Rattle.qf_table.specs.declared.fault.TableFault.{TableFault}
use Rattle.qf_table.specs.declared.fault.TableFault.TheVariants as fault
use Rattle.qf_table.specs.Faults.{Gives}
use Rattle.qf_table.specs.Headers.{heading_of, with_first, headings_from, is_named, first_repeated}
use Rattle.qf_table.specs.Tables.{number_of, columns_from, first_uneven, with_rows, rows_from, filled, if_even, if_distinct, under_header, table_in}
use Rattle.qf_table.specs.Meaning.{Says, text_fields, SaysRecords, TablesSayTheirRecords}
use Rattle.qf_table.proofs.Saying.{Fronted, in_front-ok, CellsSay, RowsSay, rows-say, length-rows, row-there, said-there, rows-texts, rows-few}

-- ---- the header

heading-ok : (o : Option Heading) (column : ℕ) (more : Result (List Heading) TableFault) (all : List Heading) → with_first o column more ≡ Ok all
    → (h : Heading) × (rest : List Heading) × Fronted all rest h more
heading-ok None column more all e = cc
heading-ok (Some h) column more all e = let f = in_front-ok h more all e in (h, f.0, f.1)

headings-length : (column : ℕ) (fields : Record) (hs : List Heading) → headings_from column fields ≡ Ok hs → length hs ≡ length fields
headings-length column [] [] e = refl
headings-length column [] (h ∷ hs) e = cc
headings-length column (field ∷ fields) hs e =
    let h = heading-ok (heading_of field) column (headings_from (column + 1) fields) hs e in
    ap length h.2.whole ∙ ap suc (headings-length (column + 1) fields h.1 h.2.others)

abbrev heading_names : List Heading → List (List ℕ)
heading_names hs = map (λ (h : Heading). h.name) hs

names-push : (hs : List Heading) (h : Heading) → heading_names (hs ++ h ∷ []) ≡ heading_names hs ++ h.name ∷ []
names-push [] h = refl
names-push (x ∷ hs) h = ap (λ ns. x.name ∷ ns) (names-push hs h)

named-among : (name : List ℕ) (hs : List Heading) → list_any (is_named name) hs ≡ list_any (is_text name) (heading_names hs)
named-among name [] = refl
named-among name (h ∷ hs) = ap (λ b. is_named name h || b) (named-among name hs)

new-name : (names : List (List ℕ)) (name : List ℕ) → AreDistinct names → list_any (is_text name) names ≡ false → AreDistinct (names ++ name ∷ [])
new-name names name distinct new =
    subst (λ (b : Bool). AreDistinct (if b then names else names ++ name ∷ [])) new (distinct-with names name distinct)

not-repeated : (b : Bool) (column : ℕ) (o : Option ℕ) → (if b then Some column else o) ≡ None → (b ≡ false) × (o ≡ None)
not-repeated true column o e = absurd (none-some column (sym e))
not-repeated false column o e = (refl, e)

distinct-names : (column : ℕ) (earlier hs : List Heading) → AreDistinct (heading_names earlier) → first_repeated column earlier hs ≡ None → AreDistinct (heading_names (earlier ++ hs))
distinct-names column earlier [] distinct e = subst (λ (hs : List Heading). AreDistinct (heading_names hs)) (sym (append-nil earlier)) distinct
distinct-names column earlier (h ∷ hs) distinct e =
    let once = not-repeated (list_any (is_named h.name) earlier) column (first_repeated (column + 1) (earlier ++ h ∷ []) hs) e in
    let new = sym (named-among h.name earlier) ∙ once.0 in
    let more = subst (λ (ns : List (List ℕ)). AreDistinct ns) (sym (names-push earlier h)) (new-name (heading_names earlier) h.name distinct new) in
    subst (λ (xs : List Heading). AreDistinct (heading_names xs)) (append_assoc earlier (h ∷ []) hs) (distinct-names (column + 1) (earlier ++ h ∷ []) hs more once.1)

column-names : (rows : List Record) (place : ℕ) (hs : List Heading) → names_of (columns_from rows place hs) ≡ heading_names hs
column-names rows place [] = refl
column-names rows place (h ∷ hs) = ap (λ ns. h.name ∷ ns) (column-names rows (place + 1) hs)

columns-length : (rows : List Record) (place : ℕ) (hs : List Heading) → length (columns_from rows place hs) ≡ length hs
columns-length rows place [] = refl
columns-length rows place (h ∷ hs) = ap suc (columns-length rows (place + 1) hs)

-- ---- the cells

le-from : (a b : ℤ) → int_le a b ≡ true → a ≤ℤ b
le-from a b h = grind (arith, ints)

both : (a b : Bool) → (a && b) ≡ true → (a ≡ true) × (b ≡ true)
both true true e = (refl, refl)
both true false e = absurd (false≢true e)
both false b e = absurd (false≢true e)

abbrev most : ℤ
most = pos (2 ^ 50)

within-case : (x z : ℤ) (b : Bool) → (int_le (neg_ℤ most) x && int_le x most) ≡ b → (if b then Some x else None) ≡ Some z → Small z
within-case x z true e is =
    let h = both (int_le (neg_ℤ most) x) (int_le x most) e in
    subst Small (same_Some x z is) (record { low = le-from (neg_ℤ most) x h.0; high = le-from x most h.1 })
within-case x z false e is = absurd (none-some z is)

within-small : (o : Option ℤ) (z : ℤ) → option_and_then (within (neg_ℤ most) most) o ≡ Some z → Small z
within-small None z is = absurd (none-some z is)
within-small (Some x) z is = within-case x z (int_le (neg_ℤ most) x && int_le x most) refl is

number-small : (field : List ℕ) (z : ℤ) → number_of field ≡ Some z → Small z
number-small field z is = within-small (numeral_of field) z is

cell-is : (k : ColumnKind) (texts : List (List ℕ)) (c : Cell) (field : List ℕ) → Says texts k c field → CellIs k (length texts) c
cell-is Int texts (cell.Int z) field says = number-small field z says
cell-is Int texts (cell.Text code) field says = says
cell-is Text texts (cell.Int z) field says = says
cell-is Text texts (cell.Text code) field says = slice_get_within texts code field says

cells-are : (texts : List (List ℕ)) (columns : List Column) (cells : List Cell) (fields : Record) → CellsSay texts columns cells fields → CellsAre columns (length texts) cells
cells-are texts [] [] [] says = tt
cells-are texts [] [] (field ∷ fields) says = absurd says
cells-are texts [] (c ∷ cells) fields says = says
cells-are texts (column ∷ columns) [] fields says = says
cells-are texts (column ∷ columns) (c ∷ cells) [] says = absurd says
cells-are texts (column ∷ columns) (c ∷ cells) (field ∷ fields) says = (cell-is column.kind texts c field says.0, cells-are texts columns cells fields says.1)

-- ---- the table

-- what is known of the records of a table
record Made (header : Record) (records : List Record) (table : Table) : Type 0 where
  headings : List Heading
  few_columns : length header ≤ 32
  read : headings_from 1 header ≡ Ok headings
  once : first_repeated 1 [] headings ≡ None
  few_rows : length records ≤ 200000
  even : first_uneven (length header) 1 records ≡ None
  columns : table.columns ≡ columns_from records 0 headings
  texts : table.texts ≡ with_rows [] table.columns records
  rows : rows_from 1 [] table.columns records ≡ Ok table.rows

not-more : (n most : ℕ) → nat_lt most n ≡ false → n ≤ most
not-more n most e = grind (arith, nat_tests)

module _ (header : Record) (records : List Record) (table : Table) (few : nat_lt 32 (length header) ≡ false) where
  from-rows : (hs : List Heading) (rows : Result (List (List Cell)) TableFault) → headings_from 1 header ≡ Ok hs → first_repeated 1 [] hs ≡ None → nat_lt 200000 (length records) ≡ false
      → first_uneven (length header) 1 records ≡ None → rows_from 1 [] (columns_from records 0 hs) records ≡ rows
      → filled (columns_from records 0 hs) (with_rows [] (columns_from records 0 hs) records) rows ≡ Ok table → Made header records table
  from-rows hs (Err f) read once few_rows even rows e = cc
  from-rows hs (Ok cells) read once few_rows even rows e =
      let is : columns_from records 0 hs ≡ table.columns = cc in
      let texts : with_rows [] (columns_from records 0 hs) records ≡ table.texts = cc in
      let there : cells ≡ table.rows = cc in
      record {
        headings = hs;
        few_columns = not-more (length header) 32 few;
        read = read;
        once = once;
        few_rows = not-more (length records) 200000 few_rows;
        even = even;
        columns = sym is;
        texts = sym texts ∙ ap (λ (cs : List Column). with_rows [] cs records) is;
        rows = ap (λ (cs : List Column). rows_from 1 [] cs records) (sym is) ∙ rows ∙ ap (λ (x : List (List Cell)). Ok x) there;
      }

  from-even : (hs : List Heading) (o : Option ℕ) → headings_from 1 header ≡ Ok hs → first_repeated 1 [] hs ≡ None → nat_lt 200000 (length records) ≡ false
      → first_uneven (length header) 1 records ≡ o → if_even o hs records ≡ Ok table → Made header records table
  from-even hs (Some n) read once few_rows even e = cc
  from-even hs None read once few_rows even e = from-rows hs (rows_from 1 [] (columns_from records 0 hs) records) read once few_rows even refl e

  from-count : (hs : List Heading) (b : Bool) → headings_from 1 header ≡ Ok hs → first_repeated 1 [] hs ≡ None → nat_lt 200000 (length records) ≡ b
      → (if b then Err fault.TooManyRows else if_even (first_uneven (length header) 1 records) hs records) ≡ Ok table → Made header records table
  from-count hs true read once few_rows e = cc
  from-count hs false read once few_rows e = from-even hs (first_uneven (length header) 1 records) read once few_rows refl e

  from-names : (hs : List Heading) (o : Option ℕ) → headings_from 1 header ≡ Ok hs → first_repeated 1 [] hs ≡ o → if_distinct o (length header) hs records ≡ Ok table → Made header records table
  from-names hs (Some column) read once e = cc
  from-names hs None read once e = from-count hs (nat_lt 200000 (length records)) read once refl e

  from-header : (r : Result (List Heading) TableFault) → headings_from 1 header ≡ r → under_header (length header) r records ≡ Ok table → Made header records table
  from-header (Err f) read e = cc
  from-header (Ok hs) read e = from-names hs (first_repeated 1 [] hs) read refl e

from-width : (header : Record) (records : List Record) (table : Table) (b : Bool) → nat_lt 32 (length header) ≡ b
    → (if b then Err fault.TooManyColumns else under_header (length header) (headings_from 1 header) records) ≡ Ok table → Made header records table
from-width header records table true few e = cc
from-width header records table false few e = from-header header records table few (headings_from 1 header) refl e

made : (header : Record) (records : List Record) (table : Table) → table_in (header ∷ records) ≡ Ok table → Made header records table
made header records table e = from-width header records table (nat_lt 32 (length header)) refl e

module _ (header : Record) (records : List Record) (table : Table) (m : Made header records table) where
  width : length table.columns ≡ length header
  width = ap length m.columns ∙ columns-length records 0 m.headings ∙ headings-length 1 header m.headings m.read

  rows-told : RowsSay table.texts table.columns table.rows records
  rows-told =
      rw m.texts (rows-say 1 1 [] table.columns records table.rows (ap (λ (n : ℕ). first_uneven n 1 records) width ∙ m.even) m.rows)

  says-records : SaysRecords records table
  says-records = record {
    rows = length-rows table.texts table.columns table.rows records rows-told;
    cells = λ row place cells fields column c field a b d e f. said-there table.texts table.columns table.rows records row place cells fields column c field rows-told a b d e f;
    texts = m.texts ∙ rows-texts [] table.columns records;
  }

  sound : IsSoundTable table
  sound =
      let few : length table.columns ≤ 32 = let h = m.few_columns in omega (arith, width, h) in
      record {
        few_columns = few;
        names = subst AreDistinct (sym (ap names_of m.columns ∙ column-names records 0 m.headings)) (distinct-names 1 [] m.headings (λ i j text a b. absurd (none-some text a)) m.once);
        few_rows = let h = length-rows table.texts table.columns table.rows records rows-told in let n = m.few_rows in omega (arith, h, n);
        rows = λ place cells got. let h = row-there table.texts table.columns table.rows records place cells rows-told got in cells-are table.texts table.columns cells h.0 h.2;
        few_texts = let h = rows-few [] table.columns records few in let n = m.few_rows in let t = ap length m.texts in omega (arith, h, n, t);
        texts = subst AreDistinct (sym (m.texts ∙ rows-texts [] table.columns records)) (distinct-with-all [] (flat_map (text_fields table.columns) records) (λ i j text a b. absurd (none-some text a)));
      }

sound-in : (records : List Record) (table : Table) → table_in records ≡ Ok table → IsSoundTable table
sound-in [] table e = cc
sound-in (header ∷ records) table e = sound header records table (made header records table e)

-- what is read is sound
pub sound-read : (result : Result Table TableFault) (records : List Record) → Gives result (table_in records) → IfOk result IsSoundTable
sound-read (Ok table) records given = sound-in records table given
sound-read (Err f) records given = tt

pub says-read : TablesSayTheirRecords
says-read bytes header records table are read = says-records header records table (made header records table (ap table_in (sym are) ∙ read))
