use Rattle.qf_rows.proofs.Adding.{add_terms_step}
use Rattle.qf_rows.proofs.sums.add_terms.Goals as goal

pub loop-term-preserved : goal.loop-term-preserved
loop-term-preserved c =
    let step = add_terms_step c.loop-term.sums.entries c.add_term.new.sums.entries c.args.terms.now c.loop-term.term-index c.in_ok-add_term.ensures c.loop-term-test.true c.requires.fits.each c.loop-term.invariant.rest c.loop-term.invariant.small in
    record { rest = step.0; small = step.1 }
