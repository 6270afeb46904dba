use Rattle.qf_sums.proofs.closed.Claim.+leaves.Given as goal

abbrev pub decreases-leaves : goal.decreases-leaves
decreases-leaves l = l.depth
