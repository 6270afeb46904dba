use Rattle.qf_slice.proofs.Slicing.{has-the-least}
use Rattle.qf_slice.proofs.laws.least_repair_is_in_the_root_box.Goals as goal

pub returns : goal.returns
returns c = has-the-least
