use Rattle.qf_prop.specs.Sweeps.{Fits}
use Rattle.qf_search.proofs.refuting.swept.Given as goal

abbrev pub invariant-loop-turn : goal.invariant-loop-turn
invariant-loop-turn l = Fits l.system l.trail.bounds
