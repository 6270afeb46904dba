use Rattle.std.proofs.Common.{sym, ap, ◌∙◌, arith, subst}
use Rattle.qf_ir.specs.Plan.{RowExists}
use Rattle.qf_goal.specs.Case.{Case, goal_at}
use Rattle.qf_goal.proofs.KeptLemmas.{goals-length, goal-there}
use Rattle.qf_goal.proofs.problem.Problem.goal.Goals as goal

pub at-requires : goal.at-requires
at-requires c =
    let inside = c.self.inside in
    omega (arith, goals-length inside.program inside.table inside.asks inside.aims.goals c.self.invariant.aims.goals)

pub returns : goal.returns
returns c =
    let inside = c.self.inside in
    let P : Case → Type 0 = λ case. RowExists case.plan c.args.row in
    goal-there inside.program inside.table inside.asks inside.aims.goals c.from.result c.args.row c.at.result.now c.self.invariant.aims.goals (subst P (sym c.self.view_is) c.requires)
    (c.from.ensures ∙ c.row_place.ensures.place) c.at.ensures
    ∙ ap (λ case. goal_at case c.args.row) c.self.view_is
