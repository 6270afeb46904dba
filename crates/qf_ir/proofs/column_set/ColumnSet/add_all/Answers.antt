use Rattle.std.proofs.Common.{arith}
use Rattle.std.proofs.lemmas.Grind.{common_steps}
use Rattle.qf_ir.specs.Flow.{At, Live}
use Rattle.qf_ir.proofs.Bits.{columns_added}
use Rattle.qf_ir.proofs.column_set.ColumnSet.add_all.Goals as goal
use Rattle.qf_ir.proofs.column_set.ColumnSet.add_all.Goals.{then-self, else-self}

pub returns : goal.returns
returns c (At d) = columns_added c.args.self.now.columns c.args.other.columns d
returns c Live = elim c.if-self.branch [ then-self w ↦ grind (arith, common_steps) | else-self w ↦ grind (arith, common_steps) ]
