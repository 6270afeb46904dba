use Rattle.qf_slice.proofs.DomainSlices.{slice-is-root}
use Rattle.qf_slice.proofs.laws.slice_is_the_root_box.Goals as goal

pub returns : goal.returns
returns c = slice-is-root
