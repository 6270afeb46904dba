use Rattle.std.proofs.Common.{◌≡◌, ◌++◌, drop}
use Rattle.qf_ir.specs.Tables.{kinds_of}
use Rattle.qf_ir.proofs.making.faults.kinds_of.Given as goal

-- the kinds so far and those of what is left are all
abbrev pub invariant-loop-column : goal.invariant-loop-column
invariant-loop-column l = l.kinds ++ kinds_of (drop l.column-index l.columns) ≡ kinds_of l.columns
