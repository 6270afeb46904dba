use Rattle.std.proofs.Common.{drop}
use Rattle.qf_ir.proofs.Accepted.{Walked}
use Rattle.qf_ir.proofs.making.faults.walk.Given as goal

abbrev pub invariant-loop-statement : goal.invariant-loop-statement
invariant-loop-statement l = Walked l.kinds l.starts (drop l.statement-index l.statements) l.statements l.progress
