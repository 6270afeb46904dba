use Rattle.std.proofs.Common.{◌+◌, drop}
use Rattle.qf_encode.specs.Coding.{coded}
use Rattle.qf_encode.specs.RowsMade.{coded_now}
use Rattle.qf_encode.proofs.Loops.{opened, statement_few, statement_next}
use Rattle.qf_encode.proofs.row.RowMaker.follow.Goals as goal

pub step-requires-clause-few : goal.step-requires-clause-few
step-requires-clause-few c =
    let statements = c.args.statements.now in
    let i = c.loop-statement.statement-index in
    let e = opened statements i c.statement-item.result c.loop-statement-test.true c.statement-item.is in
    statement_few (drop i statements) (drop (i + 1) statements) c.statement-item.result (coded_now c.loop-statement.self) (coded statements (coded_now c.args.self.now)) _ e c.loop-statement.invariant.rest c.requires.few

pub loop-statement-preserved : goal.loop-statement-preserved
loop-statement-preserved c =
    let statements = c.args.statements.now in
    let i = c.loop-statement.statement-index in
    let e = opened statements i c.statement-item.result c.loop-statement-test.true c.statement-item.is in
    let next = statement_next (drop i statements) (drop (i + 1) statements) c.statement-item.result (coded_now c.loop-statement.self) (coded_now c.step.new.self) (coded statements (coded_now c.args.self.now)) e c.loop-statement.invariant.rest c.in_ok-step.ensures c.loop-statement.invariant.within c.loop-statement.invariant.turn in
    record { rest = next.0; within = next.1; turn = next.2 }
