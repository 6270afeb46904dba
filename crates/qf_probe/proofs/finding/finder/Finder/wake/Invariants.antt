use Rattle.qf_probe.proofs.finding.finder.Finder.wake.Given as goal

abbrev pub decreases-loop-at : goal.decreases-loop-at
decreases-loop-at l = l.at
