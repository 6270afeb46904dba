use Rattle.std.proofs.Common.{◌∙◌, ap, length}
use Rattle.qf_ir.specs.Plan.{Plan}
use Rattle.qf_check.proofs.GroundLemmas.{stated_long}
use Rattle.qf_check.proofs.grounds.Grounds.stated_cost.Goals as goal

pub cost-requires : goal.cost-requires
cost-requires c =
    let olds = c.olds.ensures ∙ ap (λ (p : Plan). p.olds) c.program.ensures.value in
    record { same = ap length olds ∙ stated_long c.args.self.now.problem.now c.args.point.now c.program.ensures.sound c.requires }
