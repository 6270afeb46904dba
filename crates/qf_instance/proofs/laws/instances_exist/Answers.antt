use Rattle.qf_instance.proofs.Instances.{exist}
use Rattle.qf_instance.proofs.laws.instances_exist.Goals as goal

pub returns : goal.returns
returns c = exist
