use Rattle.std.proofs.Common.{◌∙◌, sym}
use Rattle.qf_search.proofs.Openings.{open_row}
use Rattle.qf_search.proofs.grounds.Grounds.complained_row.Goals as goal
use Rattle.qf_search.proofs.grounds.Grounds.complained_row.Goals.{then-not-misses-via-then-not-misses, then-not-misses-via-else-not-misses+then-is_kept_open}

pub returns-then-not-misses-clause-none : goal.returns-then-not-misses-clause-none
returns-then-not-misses-clause-none c =
    elim c.then-not-misses.branch [
      | then-not-misses-via-then-not-misses w ↦ open_row c.args.self.now c.args.region.now c.args.row c.args.point.now c.requires.grounds c.requires.inside c.requires.exists c.requires.point (sym c.misses.ensures.misses ∙ w.if-not-misses.true)
      | then-not-misses-via-else-not-misses+then-is_kept_open w ↦ w.is_kept_open.ensures.open w.if-is_kept_open.true
    ]
