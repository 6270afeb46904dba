use Rattle.std.proofs.Common.{◌∙◌, sym}
use Rattle.qf_search.proofs.Openings.{open_row, not_is}
use Rattle.qf_search.proofs.grounds.Grounds.is_witness.Goals as goal

pub returns-then-lies_in-clause-open : goal.returns-then-lies_in-clause-open
returns-then-lies_in-clause-open c = λ met.
    open_row c.args.self.now c.args.region.now c.args.row c.args.point.now c.requires.grounds c.requires.inside c.requires.exists (c.lies_in.ensures c.if-lies_in.true) (sym c.misses.ensures.misses ∙ not_is c.misses.result met)
