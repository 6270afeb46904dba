use Rattle.std.proofs.Common.{◌∙◌, ap, length}
use Rattle.qf_base.proofs.BoxLaws.{IsWithin-In}
use Rattle.qf_ir.specs.Plan.{Plan}
use Rattle.qf_search.proofs.Repairs.{box_long}
use Rattle.qf_search.proofs.grounds.Grounds.go_to.Goals as goal

pub cheapest-requires-clause-olds : goal.cheapest-requires-clause-olds
cheapest-requires-clause-olds c =
    let g = c.args.self.now in
    let long = box_long g.problem.now g.root c.args.region.now c.requires.grounds.sound c.requires.grounds.is.root c.requires.inside in
    ap length (c.olds.ensures ∙ ap (λ (p : Plan). p.olds) c.program.ensures.value) ∙ long

pub returns-clause-inside : goal.returns-clause-inside
returns-clause-inside c = IsWithin-In c.args.region.now c.cheapest.new.into c.cheapest.ensures.inside
