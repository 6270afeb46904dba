use Rattle.qf_log.proofs.TreeLaws.{lowered_sums_keep_their_value}
use Rattle.qf_log.proofs.laws.lowered_sums_keep_their_value.Goals as goal

pub returns : goal.returns
returns c = lowered_sums_keep_their_value
