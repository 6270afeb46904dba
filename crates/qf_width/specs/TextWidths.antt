-- Texts count by their codes, which are far from the limit: no text makes a statement wide.
use Rattle.std.specs.Prelude.{◌≡◌, ℕ, ◌≤◌, ◌^◌, pos, true, List, slice_get}
use Rattle.std.specs.declared.option.Option.TheVariants.{Some}
use Rattle.std.specs.List.{list_all}
use Rattle.qf_base.specs.Values.{Interval, Bounds, interval_at, IsIn}
use Rattle.qf_ir.specs.declared.ast.Expr.{Expr}
use Rattle.qf_ir.specs.declared.ast.Statement.{Statement}
use Rattle.qf_ir.specs.declared.table.ColumnKind.TheVariants as kind
use Rattle.qf_ir.specs.Value.{Cells, number_of, cell_at}
use Rattle.qf_ir.specs.Typed.{Scope, IsText, StatementTyped}
use Rattle.qf_ir.specs.Width.{is_narrow, expr_steps, difference_steps, widths_after, start_widths}

-- both ends are codes of so many texts
abbrev pub HasCodes : ℕ → Interval → Type 0
HasCodes texts interval = IsIn interval.0 (pos 0, pos texts) × IsIn interval.1 (pos 0, pos texts)

-- the interval of each text column has codes for ends
abbrev pub TextsHaveCodes : Scope → Bounds → Type 0
TextsHaveCodes scope widths = (column : ℕ) → slice_get scope.kinds column ≡ Some kind.Text → HasCodes scope.texts (interval_at widths column)

-- each cell of a text column is a code
abbrev pub CellsAreCodes : Scope → List Cells → Type 0
CellsAreCodes scope table =
    (place column : ℕ) (cells : Cells) → slice_get table place ≡ Some cells → slice_get scope.kinds column ≡ Some kind.Text
    → IsIn (number_of (cell_at cells column)) (pos 0, pos scope.texts)

-- While the intervals of text columns have codes for ends, nothing that a text makes leaves the limit: neither its own
-- numbers, nor what two texts differ by, nor what stands in a text column. They have codes for ends at the start, and
-- keep them over each statement that is well typed.
pub record TextsAreNarrow : Type 0 where
  pub text : (scope : Scope) (e : Expr) (widths domains : Bounds) → scope.texts ≤ 2 ^ 49 → IsText scope e → TextsHaveCodes scope widths
      → list_all is_narrow (expr_steps e widths domains) ≡ true
  pub compared : (scope : Scope) (l r : Expr) (widths domains : Bounds) → scope.texts ≤ 2 ^ 49 → IsText scope l → IsText scope r → TextsHaveCodes scope widths
      → list_all is_narrow (difference_steps l r widths domains) ≡ true
  pub stored : (scope : Scope) (column : ℕ) (widths : Bounds) → scope.texts ≤ 2 ^ 49 → slice_get scope.kinds column ≡ Some kind.Text → TextsHaveCodes scope widths
      → is_narrow (interval_at widths column) ≡ true
  pub start : (scope : Scope) (width : ℕ) (table : List Cells) → CellsAreCodes scope table → TextsHaveCodes scope (start_widths 0 width table)
  pub kept : (scope : Scope) (s : Statement) (widths domains : Bounds) → StatementTyped scope s → TextsHaveCodes scope widths
      → TextsHaveCodes scope (widths_after s domains widths)
