use Rattle.std.proofs.Common.{arith, ◌<◌}
use Rattle.std.proofs.lemmas.Grind.{common_steps}
use Rattle.qf_ir.specs.Flow.{At, Live}
use Rattle.qf_ir.proofs.Bits.{columns_removed}
use Rattle.qf_ir.proofs.column_set.ColumnSet.remove_all.Goals as goal
use Rattle.qf_ir.proofs.column_set.ColumnSet.remove_all.Goals.{then-self, else-self}

pub returns : goal.returns
returns c (At d) = let small : c.args.other.columns < 4294967296 = omega arith in columns_removed c.args.self.now.columns c.args.other.columns d small
returns c Live = elim c.if-self.branch [ then-self w ↦ grind (arith, common_steps) | else-self w ↦ grind (arith, common_steps) ]
