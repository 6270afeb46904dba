-- Tables with which a log can begin.
use Rattle.std.specs.Prelude.{◌≡◌, ℕ, ◌^◌, ◌<◌, ◌≤◌, List, [], ◌∷◌, length, map, slice_get}
use Rattle.std.specs.declared.option.Option.TheVariants.{Some}
use Rattle.qf_ir.specs.declared.cell.Cell.{Cell}
use Rattle.qf_ir.specs.declared.cell.Cell.TheVariants as cell
use Rattle.qf_ir.specs.declared.table.ColumnKind.{ColumnKind}
use Rattle.qf_ir.specs.declared.table.ColumnKind.TheVariants.{Int, Text}
use Rattle.qf_ir.specs.declared.table.Column.{Column}
use Rattle.qf_ir.specs.declared.table.Table.{Table}
use Rattle.qf_ir.specs.Value.{Cells}
use Rattle.qf_ir.specs.Fits.{Small}
use Rattle.qf_ir.specs.Texts.{AreDistinct}

abbrev pub names_of : List Column → List (List ℕ)
names_of columns = map (λ (c : Column). c.name) columns

abbrev pub kinds_of : List Column → List ColumnKind
kinds_of columns = map (λ (c : Column). c.kind) columns

-- a whole number within 2^50, or the place of a text among so many
abbrev pub CellIs : ColumnKind → ℕ → Cell → Type 0
CellIs Int texts (cell.Int z) = Small z
CellIs Int texts (cell.Text code) = ⊥
CellIs Text texts (cell.Int z) = ⊥
CellIs Text texts (cell.Text code) = code < texts

-- one cell of its kind for each column
abbrev pub CellsAre : List Column → ℕ → Cells → Type 0
CellsAre [] texts [] = Unit {0}
CellsAre [] texts (c ∷ cells) = ⊥
CellsAre (column ∷ columns) texts [] = ⊥
CellsAre (column ∷ columns) texts (c ∷ cells) = CellIs column.kind texts c × CellsAre columns texts cells

-- few columns of distinct names, few rows of one fitting cell for each column, and distinct texts that are not too many
pub record IsSoundTable (table : Table) : Type 0 where
  pub few_columns : length table.columns ≤ 32
  pub names : AreDistinct (names_of table.columns)
  pub few_rows : length table.rows ≤ 200000
  pub rows : (place : ℕ) (cells : Cells) → slice_get table.rows place ≡ Some cells → CellsAre table.columns (length table.texts) cells
  pub few_texts : length table.texts < 2 ^ 30
  pub texts : AreDistinct table.texts
