use Rattle.qf_instance.proofs.Instances.{one}
use Rattle.qf_instance.proofs.laws.instances_are_one.Goals as goal

pub returns : goal.returns
returns c = one
