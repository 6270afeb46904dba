use Rattle.qf_instance.proofs.Instances.{rows_are_its}
use Rattle.qf_instance.proofs.laws.rows_are_of_the_instance.Goals as goal

pub returns : goal.returns
returns c = rows_are_its
