use Rattle.qf_point.specs.Points.{cheapest}
use Rattle.qf_search.proofs.Exact.{failing_row}
use Rattle.qf_search.proofs.grounds.Grounds.decide.Goals as goal

pub suggested_cut-requires-clause-exists : goal.suggested_cut-requires-clause-exists
suggested_cut-requires-clause-exists c =
    let case = c.args.self.now.problem.now in
    (failing_row case (cheapest case.plan.olds c.args.region.now) c.args.row c.requires.grounds.sound c.requires.failing).0
