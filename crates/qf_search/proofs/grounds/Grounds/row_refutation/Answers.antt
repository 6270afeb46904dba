use Rattle.qf_search.proofs.Rows.{made_is, hull_fits, closing_row}
use Rattle.qf_search.proofs.grounds.Grounds.row_refutation.Goals as goal

pub refute-requires : goal.refute-requires
refute-requires c =
    let g = c.args.self.now in
    let own = c.get-own.result.now in
    let is = made_is g.problem.now g.root c.make.new.self c.args.row own c.in_ok-make.ensures.made c.get-own.ensures in
    hull_fits g c.args.region.now c.in_ok-hull.hull c.args.row own c.requires.inside is c.in_ok-hull.ensures.hull

pub returns-clause-some : goal.returns-clause-some
returns-clause-some c =
    let g = c.args.self.now in
    let own = c.get-own.result.now in
    let is = made_is g.problem.now g.root c.make.new.self c.args.row own c.in_ok-make.ensures.made c.get-own.ensures in
    closing_row g c.args.region.now c.in_ok-hull.hull c.args.row own c.refute.result c.requires.grounds c.requires.exists is c.in_ok-hull.ensures.hull c.refute.ensures.refutes c.refute.ensures.spelled
