use Rattle.std.proofs.Common.{drop}
use Rattle.qf_ir.proofs.Repeats.{Walks}
use Rattle.qf_ir.proofs.making.faults.columns_repeat.Given as goal

abbrev pub invariant-loop-column : goal.invariant-loop-column
invariant-loop-column l = Walks l.seen (drop l.column-index l.columns) l.columns
