-- Programs over sound tables are within the limits that keep a row's circuit small.
use Rattle.std.specs.Prelude.{length}
use Rattle.qf_ir.specs.declared.table.Table.{Table}
use Rattle.qf_ir.specs.Plan.{Plan, IsSound, Belongs}
use Rattle.qf_ir.specs.Tables.{IsSoundTable}
use Rattle.qf_system.specs.WidthsKept.{IsPlainTable, ArePlainStatements}
use Rattle.qf_encode.specs.Lives.{RowsIn, StatementsIn}

-- the rows of a table and the statements of a program, as the definitions of a row's circuit need them
pub record IsPlainLog (plan : Plan) (table : Table) : Type 0 where
  pub rows : RowsIn (length plan.columns) table.rows
  pub cells : IsPlainTable table.rows
  pub names : StatementsIn (length plan.columns) plan.statements
  pub statements : ArePlainStatements (length plan.columns) plan.statements

abbrev pub SoundLogsArePlain : Type 0
SoundLogsArePlain =
    (plan : Plan) (table : Table) → IsSound plan → IsSoundTable table → Belongs plan table → IsPlainLog plan table
