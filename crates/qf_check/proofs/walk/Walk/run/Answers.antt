use Rattle.std.proofs.Common.{◌≡◌, ◌∙◌, ap, sym, subst, ◌+◌, drop, ◌∷◌, arith}
use Rattle.std.proofs.lemmas.Result.{err_from_is_err_and}
use Rattle.qf_check.specs.Walking.{Told, told, IsRejectedBy}
use Rattle.qf_check.proofs.WalkLemmas.{drop_at}
use Rattle.qf_check.proofs.walk.Walk.run.Goals as goal

pub returns-in_err-step-clause-err : goal.returns-in_err-step-clause-err
returns-in_err-step-clause-err c =
    let p = err_from_is_err_and c.from_residual.result c.from_residual.ensures.1 in
    let g = c.args.grounds.now in
    let nodes = c.args.nodes.now in
    let i = c.loop-node.node-index in
    let node = c.node-item.result in
    let at = drop_at nodes i node (omega arith) c.node-item.is in
    let whole : told g c.loop-node.self (node ∷ drop (i + 1) nodes) ≡ told g c.args.self.now nodes = ap (told g c.loop-node.self) (sym at) ∙ c.loop-node.invariant.told in
    let here = c.in_err-step.ensures.err (drop (i + 1) nodes) in
    rw (p.1, p.2) (subst (λ (t : Told). IsRejectedBy t.fault c.in_err-step.field-0.0) whole here)
