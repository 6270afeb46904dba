use Rattle.std.proofs.Common.{sym, refl, ◌∙◌}
use Rattle.qf_search.proofs.Solved.{repair_solved, nothing_solved}
use Rattle.qf_search.proofs.solving.ended_answer.Goals as goal

pub returns-in-Ok : goal.returns-in-Ok
returns-in-Ok c =
    let g = c.requires.ground in
    let r = c.requires.run in
    repair_solved c.args.problem.now g.root c.args.region.now g.params g.is c.args.budget c.args.board r.run c.in-Ok.tree c.in-Ok.ensures c.in-Ok-Some.point (r.ended refl) (sym c.in-Ok-Some.ensures ∙ c.in-Ok-Some.field-0-is)

pub returns-in_ok-into_tree-in-Ok-None : goal.returns-in_ok-into_tree-in-Ok-None
returns-in_ok-into_tree-in-Ok-None c =
    let g = c.requires.ground in
    let r = c.requires.run in
    nothing_solved c.args.problem.now g.root c.args.region.now g.params g.is c.args.budget c.args.board r.run c.in_ok-into_tree-in-Ok-None.field-0 c.in_ok-into_tree-in-Ok-None.ensures (r.ended refl) (sym c.in-Ok-None.ensures ∙ c.in-Ok-None.field-0-is)
