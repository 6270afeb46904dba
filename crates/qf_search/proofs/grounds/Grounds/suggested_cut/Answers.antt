use Rattle.qf_search.proofs.Rows.{made_is, hull_fits}
use Rattle.qf_search.proofs.grounds.Grounds.suggested_cut.Goals as goal

pub swept-requires : goal.swept-requires
swept-requires c =
    let g = c.args.self.now in
    let own = c.get-own.result.now in
    let is = made_is g.problem.now g.root c.make.new.self c.args.row own c.in_ok-make.ensures.made c.get-own.ensures in
    hull_fits g c.args.region.now c.in_ok-hull.hull c.args.row own c.requires.inside is c.in_ok-hull.ensures.hull
