use Rattle.std.proofs.Common.{false, true, arith}
use Rattle.qf_check.proofs.UndoLemmas.{empty-count, empty_right}
use Rattle.qf_check.proofs.refuting.Refuting.end.Goals as goal

pub returns-then-self-eq0-clause-right : goal.returns-then-self-eq0-clause-right
returns-then-self-eq0-clause-right c = λ system.
    empty_right system c.args.self.now false c.requires.there ((empty-count c.args.self.now.bounds).0 (omega (arith, c.requires.tracked.1.crossed, c.if-self-eq0.true)))

pub returns-clause-right : goal.returns-clause-right
returns-clause-right c = λ system.
    empty_right system c.args.self.now true c.requires.there ((empty-count c.args.self.now.bounds).1 (omega (arith, c.requires.tracked.1.crossed, c.if-self-eq0.false)))
