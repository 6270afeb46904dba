use Rattle.qf_instance.proofs.Encoded.{faithful}
use Rattle.qf_instance.proofs.laws.instances_are_faithful.Goals as goal

pub returns : goal.returns
returns c = faithful
