use Rattle.std.proofs.Common.{subst}
use Rattle.qf_goal.specs.Case.{Case}
use Rattle.qf_search.specs.Exploring.{Explores}
use Rattle.qf_search.proofs.Explorations.{explores_none, goes_on}
use Rattle.qf_search.proofs.exploring.explore.Goals as goal

pub returns-in_err-store-clause-explores : goal.returns-in_err-store-clause-explores
returns-in_err-store-clause-explores c = explores_none c.args.problem.now c.args.who c.args.most c.args.board.now c.requires.free

pub returns-clause-stands : goal.returns-clause-stands
returns-clause-stands c =
    let s = c.args.board.now in
    let u = c.run.new.board in
    goes_on c.args.problem.now c.args.who c.args.most s u c.requires.stands (subst (λ (case : Case). Explores case c.args.who c.args.most s u) c.in_ok-grounds.ensures.problem c.run.ensures.explores)
