use Rattle.qf_base.proofs.BoxLaws.{In-IsWithin}
use Rattle.qf_instance.proofs.Boxes.{box_within, boxes_hold, root_in_domains}
use Rattle.qf_search.proofs.grounds.Grounds.failing.Goals as goal

pub first_failing-requires : goal.first_failing-requires
first_failing-requires c =
    let g = c.args.self.now in
    let case = g.problem.now in
    let domains = box_within c.args.region.now g.root case.domains.region c.requires.inside (root_in_domains case g.root c.requires.grounds.sound c.requires.grounds.is.root) in
    In-IsWithin case.domains.region c.go_to.new.point (boxes_hold c.args.region.now case.domains.region domains c.go_to.new.point c.go_to.ensures.inside)
