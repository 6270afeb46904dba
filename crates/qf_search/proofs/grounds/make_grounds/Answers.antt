use Rattle.std.proofs.Common.{◌∙◌, ap, length}
use Rattle.qf_ir.specs.Plan.{Plan}
use Rattle.qf_goal.specs.SeedPlaces.{case_seeds}
use Rattle.qf_replay.specs.BirthPlaces.{births_of}
use Rattle.qf_instance.proofs.Instances.{marks_make}
use Rattle.qf_search.proofs.grounds.make_grounds.Goals as goal

pub returns-clause-grounds : goal.returns-clause-grounds
returns-clause-grounds c =
    let case = c.args.problem.now in
    let needed = rw c.program-program.ensures.value at (c.in_ok-marks.ensures.needed (case_seeds case) c.seeds.ensures) in
    let len = c.in_ok-marks.ensures.len ∙ ap (λ (p : Plan). length p.olds) c.program-program.ensures.value in
    record {
      is = marks_make case c.in_ok-root.root c.in_ok-marks.marks c.program-program.ensures.sound c.in_ok-root.ensures.root needed len;
      sound = c.program-program.ensures.sound;
      births = c.in_ok-births.ensures ∙ ap (λ (p : Plan). births_of p.statements) c.program-program.ensures.value;
    }
