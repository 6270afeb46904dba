use Rattle.qf_search.specs.Grounding.{AreTools}
use Rattle.qf_search.proofs.grounds.Grounds.suggested_refutation.Given as goal

abbrev pub invariant-loop-row : goal.invariant-loop-row
invariant-loop-row l = AreTools l.self l.tools
