use Rattle.qf_instance.proofs.Fits.{bounds_fit}
use Rattle.qf_instance.proofs.laws.bounds_keep_fit.Goals as goal

pub returns : goal.returns
returns c = bounds_fit
