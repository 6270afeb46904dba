use Rattle.qf_wires.proofs.wired.Wired.+count.Given as goal

abbrev pub decreases-count : goal.decreases-count
decreases-count l = l.depth
