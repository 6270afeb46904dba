use Rattle.qf_goal.specs.SeedPlaces.{case_seeds}
use Rattle.std.proofs.Common.{◌∙◌, ap, length}
use Rattle.qf_ir.specs.Plan.{Plan}
use Rattle.qf_instance.proofs.Instances.{marks_make}
use Rattle.qf_check.proofs.certificate.make_grounds.Goals as goal

pub returns-clause-is : goal.returns-clause-is
returns-clause-is c =
    let case = c.args.problem.now in
    let needed = rw c.program-program.ensures.value at (c.in_ok-marks.ensures.needed (case_seeds case) c.seeds.ensures) in
    let len = c.in_ok-marks.ensures.len ∙ ap (λ (p : Plan). length p.olds) c.program-program.ensures.value in
    marks_make case c.in_ok-root.root c.in_ok-marks.marks c.program-program.ensures.sound c.in_ok-root.ensures.root needed len
