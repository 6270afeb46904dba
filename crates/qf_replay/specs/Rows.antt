-- One row's cells while it goes through a log.
use Rattle.std.specs.Prelude.{ℕ, Bool, List, [], ◌∷◌, slice_set, if◌then◌else◌}
use Rattle.qf_ir.specs.declared.ast.Expr.{Expr}
use Rattle.qf_ir.specs.declared.cell.Outcome.{Outcome}
use Rattle.qf_ir.specs.declared.cell.Outcome.TheVariants.{Gone, There}
use Rattle.qf_ir.specs.Value.{Cells, cell_at}

-- what becomes of a row with these cells at the end, where it lives
abbrev pub ended : Bool → Cells → Outcome
ended live cells = if live then There cells else Gone

-- each set column takes its cell from another row
abbrev pub taken : List (ℕ × Expr) → Cells → Cells → Cells
taken [] from cells = cells
taken (s ∷ sets) from cells = taken sets from (slice_set cells s.0 (cell_at from s.0))
