-- The search for the first fault, statement by statement.
use Rattle.std.specs.Prelude.{◌≡◌, ℕ, ◌+◌, Bool, not, ◌||◌, nat_lt, List, length, if◌then◌else◌, Result, Ok, Err}
use Rattle.std.specs.declared.option.Option.{Option}
use Rattle.std.specs.declared.option.Option.TheVariants.{Some, None}
use Rattle.qf_ir.specs.declared.ast.Statement.{Statement}
use Rattle.qf_ir.specs.declared.table.ColumnKind.{ColumnKind}
use Rattle.qf_ir.specs.declared.fault.IrFault.{IrFault}
use Rattle.qf_ir.specs.declared.fault.IrFault.TheVariants as fault
use Rattle.qf_ir.specs.declared.making.tally.Tally.{Tally}
use Rattle.qf_ir.specs.declared.making.faults.Progress.{Progress}
use Rattle.qf_ir.specs.Replay.{inserted_count}
use Rattle.qf_ir.specs.Parts.{targets_of, statement_params}
use Rattle.qf_ir.specs.Checked.{repeats, leaves_out, fault_of, rows_of, fault_from}
use Rattle.qf_ir.specs.Tallies.{capped}

abbrev pub are_too_many : Progress → Tally → Bool
are_too_many progress tally =
    nat_lt 1000 progress.number || nat_lt 4096 progress.params || nat_lt 200000 progress.rows || tally.long || nat_lt 64 tally.comparisons

-- the fault of a statement by its tally
abbrev pub tallied_fault : ℕ → Progress → Tally → Statement → Option IrFault
tallied_fault width progress tally s =
    if not tally.known then Some (fault.UnknownColumn progress.number)
    else if not tally.agrees then Some (fault.WrongType progress.number)
    else if repeats (targets_of s) then Some (fault.RepeatedColumn progress.number)
    else if leaves_out width s then Some (fault.MissingColumn progress.number)
    else if are_too_many progress tally then Some (fault.TooMany progress.number)
    else None

abbrev pub with_statement : Progress → Tally → Statement → Progress
with_statement progress tally s =
    record { number = progress.number + 1; params = capped (progress.params + tally.params); rows = capped (progress.rows + rows_of s) }

abbrev pub counted : Progress → Statement → Progress
counted progress s =
    record { number = progress.number + 1; params = progress.params + length (statement_params s); rows = progress.rows + rows_of s }

abbrev pub next_fault : List ColumnKind → Progress → Statement → Option IrFault
next_fault kinds progress s = fault_of kinds (progress.number + 1) (progress.params + length (statement_params s)) (progress.rows + rows_of s) s

-- a statement without a fault, and the counts after it; or its fault
abbrev pub Steps : List ColumnKind → Progress → Statement → Result Progress IrFault → Type 0
Steps kinds progress s (Ok next) = (next_fault kinds progress s ≡ None) × (next ≡ counted progress s)
Steps kinds progress s (Err f) = next_fault kinds progress s ≡ Some f

-- statements without a fault, and how many rows they insert; or their first fault
abbrev pub Passes : List ColumnKind → ℕ → List Statement → Result ℕ IrFault → Type 0
Passes kinds starts statements (Ok inserted) = (fault_from kinds 1 0 starts statements ≡ None) × (inserted ≡ inserted_count statements)
Passes kinds starts statements (Err fault.NoMemory) = Unit {0}
Passes kinds starts statements (Err f) = fault_from kinds 1 0 starts statements ≡ Some f
