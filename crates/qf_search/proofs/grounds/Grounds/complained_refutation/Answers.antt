use Rattle.std.proofs.Common.{arith}
use Rattle.qf_search.proofs.Openings.{not_closable, open_more}
use Rattle.qf_search.proofs.grounds.Grounds.complained_refutation.Goals as goal

pub loop-place-preserved : goal.loop-place-preserved
loop-place-preserved c =
    let here = rw c.in_default.is at c.in_ok-steps.ensures.none in
    record {
      tools = c.in_ok-steps.ensures.tools;
      open_rows = open_more c.args.self.now c.args.region.now c.complained_rows-rows.result.now c.loop-place.place c.at-row.result.now c.at-row.ensures here c.loop-place.invariant.open_rows;
    }

pub returns-clause-none : goal.returns-clause-none
returns-clause-none c =
    not_closable c.args.self.now c.args.region.now c.complained_rows-rows.result.now c.requires.grounds c.complained_rows-rows.ensures.rows (λ k d inside. c.loop-place.invariant.open_rows k d (omega (arith, inside, c.loop-place-test.false, c.len-place-end.ensures)))
