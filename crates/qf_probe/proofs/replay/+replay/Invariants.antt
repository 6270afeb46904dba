use Rattle.std.proofs.Common.{◌-◌}
use Rattle.qf_probe.proofs.replay.+replay.Given as goal

abbrev pub decreases-replay : goal.decreases-replay
decreases-replay l = 8 - l.depth
