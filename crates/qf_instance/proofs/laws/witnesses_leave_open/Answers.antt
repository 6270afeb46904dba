use Rattle.qf_instance.proofs.Witnesses.{witnesses_leave_open}
use Rattle.qf_instance.proofs.laws.witnesses_leave_open.Goals as goal

pub returns : goal.returns
returns c = witnesses_leave_open
