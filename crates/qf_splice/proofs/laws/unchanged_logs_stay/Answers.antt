use Rattle.qf_splice.proofs.Unchanged.{logs_stay}
use Rattle.qf_splice.proofs.laws.unchanged_logs_stay.Goals as goal

pub returns : goal.returns
returns c = logs_stay
