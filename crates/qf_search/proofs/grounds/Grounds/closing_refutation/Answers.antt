use Rattle.qf_search.proofs.Rows.{made_is, hull_fits, closing_row, open_otherwise}
use Rattle.qf_search.proofs.grounds.Grounds.closing_refutation.Goals as goal

pub closing-requires : goal.closing-requires
closing-requires c =
    let g = c.args.self.now in
    let own = c.get-own.result.now in
    let is = made_is g.problem.now g.root c.make.new.self c.args.row own c.in_ok-make.ensures.made c.get-own.ensures in
    hull_fits g c.args.region.now c.in_ok-hull.hull c.args.row own c.requires.inside is c.in_ok-hull.ensures.hull

pub returns-clause-some : goal.returns-clause-some
returns-clause-some c =
    let g = c.args.self.now in
    let own = c.get-own.result.now in
    let is = made_is g.problem.now g.root c.make.new.self c.args.row own c.in_ok-make.ensures.made c.get-own.ensures in
    closing_row g c.args.region.now c.in_ok-hull.hull c.args.row own c.closing.result c.requires.grounds c.requires.exists is c.in_ok-hull.ensures.hull c.closing.ensures.refutes c.closing.ensures.spelled

pub returns-clause-none : goal.returns-clause-none
returns-clause-none c =
    let g = c.args.self.now in
    let own = c.get-own.result.now in
    let is = made_is g.problem.now g.root c.make.new.self c.args.row own c.in_ok-make.ensures.made c.get-own.ensures in
    open_otherwise g c.args.region.now c.in_ok-hull.hull c.args.row own c.closing.result c.requires.grounds is c.in_ok-hull.ensures.hull c.closing.ensures.none
