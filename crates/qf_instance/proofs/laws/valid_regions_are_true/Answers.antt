use Rattle.qf_instance.proofs.Claims.{regions_true}
use Rattle.qf_instance.proofs.laws.valid_regions_are_true.Goals as goal

pub returns : goal.returns
returns c = regions_true
