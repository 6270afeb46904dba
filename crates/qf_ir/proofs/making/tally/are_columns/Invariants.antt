use Rattle.std.proofs.Common.{◌≡◌, drop}
use Rattle.std.specs.List.{list_all}
use Rattle.qf_ir.specs.Checked.{is_column}
use Rattle.qf_ir.proofs.making.tally.are_columns.Given as goal

-- the answer for what is left is that for the whole
abbrev pub invariant-loop-column : goal.invariant-loop-column
invariant-loop-column l = list_all (is_column l.width) (drop l.column-index l.columns) ≡ list_all (is_column l.width) l.columns
