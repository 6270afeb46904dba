-- What the call that works out the widths answers.
use Rattle.std.specs.Prelude.{◌≡◌, ℕ, length, Ok, Err}
use Rattle.qf_base.specs.Values.{Bounds}
use Rattle.qf_ir.specs.declared.table.Table.{Table}
use Rattle.qf_ir.specs.Width.{widths_of}
use Rattle.qf_ir.specs.Plan.{Plan}

-- no statement is too wide, and these are the widths at the end
abbrev pub AreWidths : Plan → Table → Bounds → Bounds → Type 0
AreWidths plan table domains widths = widths_of (length plan.columns) table.rows plan.statements domains ≡ Ok widths

-- this statement, counted from 1, is the first that is too wide
abbrev pub IsWide : Plan → Table → Bounds → ℕ → Type 0
IsWide plan table domains statement = widths_of (length plan.columns) table.rows plan.statements domains ≡ Err statement
