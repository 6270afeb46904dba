use Rattle.qf_prop.proofs.Derivations.{fits_after}
use Rattle.qf_search.proofs.refuting.swept.Goals as goal

pub loop-turn-preserved : goal.loop-turn-preserved
loop-turn-preserved c =
    let leads = c.sweep.ensures.leads in
    fits_after c.args.system.now leads.0 c.loop-turn.trail.bounds c.sweep.new.trail.bounds leads.2 c.loop-turn.invariant
