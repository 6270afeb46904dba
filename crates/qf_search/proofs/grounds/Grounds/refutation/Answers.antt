use Rattle.qf_search.proofs.Exact.{failing_row}
use Rattle.qf_search.proofs.grounds.Grounds.refutation.Goals as goal

pub goal_refutation-requires-clause-exists : goal.goal_refutation-requires-clause-exists
goal_refutation-requires-clause-exists c = (failing_row c.args.self.now.problem.now c.args.point.now c.args.row c.requires.grounds.sound c.requires.failing).0

pub returns-in-Some-clause-refutes : goal.returns-in-Some-clause-refutes
returns-in-Some-clause-refutes c =
    let closes = rw c.in-Some.is at c.in_ok-steps.ensures.some in
    (closes, (failing_row c.args.self.now.problem.now c.args.point.now c.args.row c.requires.grounds.sound c.requires.failing).1)
