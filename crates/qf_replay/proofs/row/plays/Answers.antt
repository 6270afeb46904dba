use Rattle.std.proofs.Common.{sym, ◌∙◌}
use Rattle.qf_replay.proofs.LifeSteps.{ends-here}
use Rattle.qf_replay.proofs.row.plays.Goals as goal

pub returns-then-not-lives_on : goal.returns-then-not-lives_on
returns-then-not-lives_on c =
    sym (ends-here c.args.statements.now c.loop-statement.statement-index c.statement-item.result c.args.point.now c.loop-statement.cells _ c.loop-statement-test.true c.statement-item.is
    c.lives_on.ensures.live c.if-not-lives_on.true)
    ∙ c.loop-statement.invariant.rest
