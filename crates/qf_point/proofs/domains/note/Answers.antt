use Rattle.std.proofs.Common.{arith}
use Rattle.qf_point.proofs.Noting.{noted_here, noted_there, noted_past}
use Rattle.qf_point.proofs.domains.note.Goals.{else-place-len-via-then-place-len+else-is_none, else-place-len-via-else-place-len}
use Rattle.qf_point.proofs.domains.note.Goals as goal

pub returns-then-is_none : goal.returns-then-is_none
returns-then-is_none c =
    noted_here c.args.found.now.items c.args.param c.args.at c.index.result.now (omega arith) c.index.ensures c.if-is_none.ensures

pub returns-else-place-len : goal.returns-else-place-len
returns-else-place-len c =
    elim c.else-place-len.branch [
      | else-place-len-via-then-place-len+else-is_none w ↦ noted_there c.args.found.now.items c.args.param c.args.at w.index.result.now (omega arith) w.index.ensures w.if-is_none.ensures
      | else-place-len-via-else-place-len w ↦ noted_past c.args.found.now.items c.args.param c.args.at (omega arith) (omega arith)
    ]
