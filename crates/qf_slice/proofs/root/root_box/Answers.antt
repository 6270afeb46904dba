use Rattle.std.proofs.Common.{◌∙◌, ap}
use Rattle.qf_point.specs.Domains.{DomainBox}
use Rattle.qf_goal.specs.SeedPlaces.{case_seeds}
use Rattle.qf_slice.proofs.Boxes.{root-is}
use Rattle.qf_slice.proofs.root.root_box.Goals as goal

pub returns : goal.returns
returns c =
    let is =
    root-is c.args.problem.now c.program-program.result.now c.in_ok-marks.marks c.as_slice.result.now c.as_slice-2.result.now c.in_ok-region.region c.slice.new.region
    c.program-program.ensures.sound c.program-program.ensures.value
    (c.in_ok-marks.ensures.needed (case_seeds c.args.problem.now) c.seeds.ensures) c.in_ok-marks.ensures.len c.as_slice.ensures
    (c.as_slice-2.ensures ∙ c.olds.ensures)
    (c.in_ok-region.ensures ∙ c.region.ensures.region ∙ ap (λ (d : DomainBox). d.region) c.domains.ensures)
    c.slice.ensures in
    record { root = is.root_box; spans = is.spans; old = is.old; within = is.within }
