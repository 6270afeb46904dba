use Rattle.qf_instance.proofs.Instances.{leanness_is_one}
use Rattle.qf_instance.proofs.laws.leanness_is_one.Goals as goal

pub returns : goal.returns
returns c = leanness_is_one
