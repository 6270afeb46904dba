use Rattle.qf_slice.proofs.Slicing.{misses-none}
use Rattle.qf_slice.proofs.laws.no_repair_outside_the_root_box.Goals as goal

pub returns : goal.returns
returns c = misses-none
