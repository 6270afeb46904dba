use Rattle.qf_ir.proofs.Joining.{same_codes}
use Rattle.qf_ir.proofs.laws.codes_mean_texts.Goals as goal

pub returns : goal.returns
returns c = same_codes
