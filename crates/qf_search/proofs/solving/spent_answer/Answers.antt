use Rattle.std.proofs.Common.{◌∙◌, ap, refl, arith}
use Rattle.qf_board.specs.Boards.{tree_of}
use Rattle.qf_search.proofs.Solved.{frame, budget_solved}
use Rattle.qf_search.proofs.solving.spent_answer.Goals as goal

pub least_left-requires-clause-olds : goal.least_left-requires-clause-olds
least_left-requires-clause-olds c =
    let g = c.requires.ground in
    (frame c.args.problem.now g.root c.args.region.now g.params g.is c.args.budget c.args.board c.requires.run.run).0

pub least_left-requires-clause-one : goal.least_left-requires-clause-one
least_left-requires-clause-one c =
    let g = c.requires.ground in
    omega (arith, (frame c.args.problem.now g.root c.args.region.now g.params g.is c.args.budget c.args.board c.requires.run.run).1)

pub returns-in_ok-into_tree-in-Ok : goal.returns-in_ok-into_tree-in-Ok
returns-in_ok-into_tree-in-Ok c =
    let g = c.requires.ground in
    let r = c.requires.run in
    let spent = r.spent refl in
    budget_solved c.args.problem.now g.root c.args.region.now g.params g.is c.args.budget c.args.board r.run c.in_ok-into_tree-in-Ok.field-0 (c.in_ok-into_tree-in-Ok.ensures ∙ ap tree_of c.in-Ok.ensures.same) spent.left c.in-Ok.least (c.in-Ok.ensures.least spent.left) (omega (arith, spent.added))
