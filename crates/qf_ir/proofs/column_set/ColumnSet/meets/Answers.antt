use Rattle.std.proofs.Common.{◌<◌, arith}
use Rattle.std.proofs.lemmas.Nat.{and_le_l}
use Rattle.qf_ir.specs.Flow.{At, Live}
use Rattle.qf_ir.proofs.Bits.{common_bit, no_common_bit}
use Rattle.qf_ir.proofs.column_set.ColumnSet.meets.Goals as goal

pub returns-then-self-other-ne0-clause-common : goal.returns-then-self-other-ne0-clause-common
returns-then-self-other-ne0-clause-common c met =
    let found = common_bit c.args.self.now.columns c.args.other.columns (let small = and_le_l c.args.self.now.columns c.args.other.columns in let fits : c.args.self.now.columns < 4294967296 = omega arith in omega (arith, small, fits)) c.if-self-other-ne0.true in
    (At found.0, found.1, found.2)

pub returns-then-self-clause-apart : goal.returns-then-self-clause-apart
returns-then-self-clause-apart c (At d) here there =
    absurd (no_common_bit c.args.self.now.columns c.args.other.columns d c.if-self-other-ne0.false here there)
returns-then-self-clause-apart c Live here there = there

pub returns-else-self-clause-apart : goal.returns-else-self-clause-apart
returns-else-self-clause-apart c (At d) here there =
    absurd (no_common_bit c.args.self.now.columns c.args.other.columns d c.if-self-other-ne0.false here there)
returns-else-self-clause-apart c Live here there = here
