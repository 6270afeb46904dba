use Rattle.std.proofs.Common.{◌*◌, ◌+◌}
use Rattle.qf_probe.proofs.finding.cases.+closing.Given as goal

abbrev pub decreases-close : goal.decreases-close
decreases-close l = 2 * l.depth

abbrev pub decreases-close_cases : goal.decreases-close_cases
decreases-close_cases l = 2 * l.depth + 1
