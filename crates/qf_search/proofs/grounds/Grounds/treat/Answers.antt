use Rattle.std.proofs.lemmas.Result.{on_ok_weaker}
use Rattle.qf_point.specs.Points.{cheapest}
use Rattle.qf_search.proofs.Turns.{can_carry}
use Rattle.qf_search.proofs.grounds.Grounds.treat.Goals as goal

pub carry_out-requires : goal.carry_out-requires
carry_out-requires c =
    let case = c.args.self.now.problem.now in
    can_carry case c.args.board.now c.args.who c.args.region.now (cheapest case.plan.olds c.args.region.now) c.args.row c.in_ok-decision.decision c.requires.held c.in_ok-decision.ensures.decided

pub returns-clause-ok : goal.returns-clause-ok
returns-clause-ok c =
    on_ok_weaker c.carry_out.result
    (λ happened. record { decision = c.in_ok-decision.decision; decided = c.in_ok-decision.ensures.decided; happened = happened })
    c.carry_out.ensures.ok
