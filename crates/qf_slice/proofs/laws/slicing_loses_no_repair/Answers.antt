use Rattle.qf_slice.proofs.Slicing.{loses-no-repair}
use Rattle.qf_slice.proofs.laws.slicing_loses_no_repair.Goals as goal

pub returns : goal.returns
returns c = loses-no-repair
