-- What a table says of the records that it was read from.
use Rattle.std.specs.Prelude.{◌≡◌, ℕ, List, [], ◌∷◌, length, Some, Ok, slice_get}
use Rattle.std.specs.List.{flat_map}
use Rattle.qf_csv.specs.Records.{Record, records_of}
use Rattle.qf_ir.specs.declared.cell.Cell.{Cell}
use Rattle.qf_ir.specs.declared.cell.Cell.TheVariants as cell
use Rattle.qf_ir.specs.declared.table.ColumnKind.{ColumnKind}
use Rattle.qf_ir.specs.declared.table.ColumnKind.TheVariants.{Int, Text}
use Rattle.qf_ir.specs.declared.table.Column.{Column}
use Rattle.qf_ir.specs.declared.table.Table.{Table}
use Rattle.qf_ir.specs.Texts.{with_texts}
use Rattle.qf_table.specs.Tables.{number_of, table_of}

-- the number that the field writes, or the place of the text that the field is
abbrev pub Says : List (List ℕ) → ColumnKind → Cell → List ℕ → Type 0
Says texts Int (cell.Int z) field = number_of field ≡ Some z
Says texts Int (cell.Text code) field = ⊥
Says texts Text (cell.Int z) field = ⊥
Says texts Text (cell.Text code) field = slice_get texts code ≡ Some field

abbrev pub with_field_text : ColumnKind → List ℕ → List (List ℕ) → List (List ℕ)
with_field_text Int field others = others
with_field_text Text field others = field ∷ others

-- the fields of a record in columns of texts, from left to right
abbrev pub text_fields : List Column → Record → List (List ℕ)
text_fields [] fields = []
text_fields (column ∷ columns) [] = []
text_fields (column ∷ columns) (field ∷ fields) = with_field_text column.kind field (text_fields columns fields)

-- the cell of each record and column says the field there; the texts are the text fields of all records, record by record,
-- each where it first comes
pub record SaysRecords (records : List Record) (table : Table) : Type 0 where
  pub rows : length table.rows ≡ length records
  pub cells : (row place : ℕ) (cells : List Cell) (fields : Record) (column : Column) (c : Cell) (field : List ℕ)
      → slice_get table.rows row ≡ Some cells → slice_get records row ≡ Some fields
      → slice_get table.columns place ≡ Some column → slice_get cells place ≡ Some c → slice_get fields place ≡ Some field
      → Says table.texts column.kind c field
  pub texts : table.texts ≡ with_texts [] (flat_map (text_fields table.columns) records)

-- what bytes are read as says each record behind the header
abbrev pub TablesSayTheirRecords : Type 0
TablesSayTheirRecords =
    (bytes : List ℕ) (header : Record) (records : List Record) (table : Table) → records_of bytes ≡ header ∷ records → table_of bytes ≡ Ok table
    → SaysRecords records table
