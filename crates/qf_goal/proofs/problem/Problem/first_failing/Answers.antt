use Rattle.qf_goal.proofs.KeptLemmas.{failing_found, failing_later, failing_tells}
use Rattle.qf_goal.proofs.problem.Problem.first_failing.Goals as goal

pub returns-in-Some-clause-first : goal.returns-in-Some-clause-first
returns-in-Some-clause-first c = failing_found c.args.self.now c.args.point.now c.in-Some.row _ c.in-Some.is c.first_complained.ensures.first

pub returns-in-Some-clause-none : goal.returns-in-Some-clause-none
returns-in-Some-clause-none c = failing_tells c.args.self.now c.args.point.now _ (failing_found c.args.self.now c.args.point.now c.in-Some.row _ c.in-Some.is c.first_complained.ensures.first)

pub returns-clause-first : goal.returns-clause-first
returns-clause-first c = failing_later c.args.self.now c.args.point.now _ c.first_other.result c.in-None.is c.first_complained.ensures.first c.first_other.ensures

pub returns-clause-none : goal.returns-clause-none
returns-clause-none c = failing_tells c.args.self.now c.args.point.now _ (failing_later c.args.self.now c.args.point.now _ c.first_other.result c.in-None.is c.first_complained.ensures.first c.first_other.ensures)
