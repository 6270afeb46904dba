use Rattle.std.proofs.Common.{subst, ◌+◌, drop, List}
use Rattle.qf_ir.specs.declared.ast.Statement.{Statement}
use Rattle.qf_ir.proofs.Accepted.{Walked, walked-more, next-item}
use Rattle.qf_ir.proofs.making.faults.walk.Goals as goal

pub loop-statement-preserved : goal.loop-statement-preserved
loop-statement-preserved c =
    let kinds = c.args.kinds.now in
    let all = c.args.statements.now in
    let rest = drop (c.loop-statement.statement-index + 1) all in
    let next = next-item all c.loop-statement.statement-index c.statement-item.result c.loop-statement-test.true c.statement-item.is in
    walked-more kinds c.args.starts c.statement-item.result rest all c.loop-statement.progress c.in-Ok.next
    (subst (λ (ss : List Statement). Walked kinds c.args.starts ss all c.loop-statement.progress) next c.loop-statement.invariant)
    c.in-Ok.ensures.0 c.in-Ok.ensures.1
