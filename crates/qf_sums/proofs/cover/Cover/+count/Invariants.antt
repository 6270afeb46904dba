use Rattle.qf_sums.proofs.cover.Cover.+count.Given as goal

abbrev pub decreases-count : goal.decreases-count
decreases-count l = l.depth
