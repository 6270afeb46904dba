use Rattle.qf_wires.proofs.wired.Wired.+avoids.Given as goal

abbrev pub decreases-avoids : goal.decreases-avoids
decreases-avoids l = l.depth
