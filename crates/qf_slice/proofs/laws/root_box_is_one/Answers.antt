use Rattle.qf_slice.proofs.Slices.{root-boxes-equal}
use Rattle.qf_slice.proofs.laws.root_box_is_one.Goals as goal

pub returns : goal.returns
returns c = root-boxes-equal
