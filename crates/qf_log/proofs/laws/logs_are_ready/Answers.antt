use Rattle.qf_log.proofs.ReadyLaws.{logs_are_ready}
use Rattle.qf_log.proofs.laws.logs_are_ready.Goals as goal

pub returns : goal.returns
returns c = logs_are_ready
