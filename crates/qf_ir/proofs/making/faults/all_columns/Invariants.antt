use Rattle.std.proofs.Common.{◌≡◌}
use Rattle.std.specs.List.{range_with_len}
use Rattle.qf_ir.proofs.making.faults.all_columns.Given as goal

-- the numbers so far
abbrev pub invariant-loop-column : goal.invariant-loop-column
invariant-loop-column l = l.all ≡ range_with_len 0 l.column
