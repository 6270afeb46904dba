use Rattle.std.proofs.Common.{◌∙◌, ap}
use Rattle.qf_ir.specs.Plan.{Plan}
use Rattle.qf_search.proofs.Repairs.{box_long}
use Rattle.qf_search.proofs.solving.board_over.Goals as goal

pub open-requires-clause-same : goal.open-requires-clause-same
open-requires-clause-same c =
    let g = c.requires.is in
    let olds = c.in_ok-olds.ensures ∙ c.as_slice.ensures ∙ c.olds.ensures ∙ ap (λ (p : Plan). p.olds) c.program.ensures.value in
    let long = box_long c.args.grounds.now.problem.now c.requires.root c.args.region.now g.sound g.is_root g.inside in
    rw (olds, c.in_ok-root.ensures) long
