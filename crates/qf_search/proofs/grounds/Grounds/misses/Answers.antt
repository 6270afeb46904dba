use Rattle.qf_base.proofs.BoxLaws.{In-IsWithin}
use Rattle.qf_ir.specs.Plan.{FitsAt}
use Rattle.qf_instance.proofs.Boxes.{boxes_hold, root_in_domains}
use Rattle.qf_search.proofs.grounds.Grounds.misses.Goals as goal

pub meets-requires-clause-fits : goal.meets-requires-clause-fits
meets-requires-clause-fits c =
    let g = c.args.self.now in
    let case = g.problem.now in
    let domains = boxes_hold g.root case.domains.region (root_in_domains case g.root c.requires.grounds.sound c.requires.grounds.is.root) c.args.point.now c.requires.point in
    let fits : FitsAt case.plan case.table c.args.point.now = record { domains = case.domains.region; inside = In-IsWithin case.domains.region c.args.point.now domains; fits = c.requires.grounds.sound.fits } in
    rw (c.program.ensures.value, c.table.ensures) fits
