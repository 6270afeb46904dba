use Rattle.qf_instance.proofs.Instances.{marks_make}
use Rattle.qf_instance.proofs.laws.marks_make_instances.Goals as goal

pub returns : goal.returns
returns c = marks_make
