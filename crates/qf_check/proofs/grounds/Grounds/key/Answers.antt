use Rattle.std.proofs.Common.{◌∙◌, ap, length, arith}
use Rattle.qf_ir.specs.Plan.{Plan}
use Rattle.qf_check.proofs.GroundLemmas.{olds_long}
use Rattle.qf_check.proofs.grounds.Grounds.key.Goals as goal

pub cheapest-requires-clause-olds : goal.cheapest-requires-clause-olds
cheapest-requires-clause-olds c =
    let long = olds_long c.args.self.now.problem.now c.args.self.now.root c.args.region.now c.program.ensures.sound c.requires.grounds.root c.requires.inside in
    let olds = c.olds.ensures ∙ ap (λ (p : Plan). p.olds) c.program.ensures.value in
    ap length olds ∙ long.0

pub returns-clause-len : goal.returns-clause-len
returns-clause-len c =
    let long = olds_long c.args.self.now.problem.now c.args.self.now.root c.args.region.now c.program.ensures.sound c.requires.grounds.root c.requires.inside in
    omega (arith, long.0, c.cheapest.ensures.len)
