use Rattle.qf_instance.proofs.Claims.{certificates_true}
use Rattle.qf_instance.proofs.laws.valid_certificates_are_true.Goals as goal

pub returns : goal.returns
returns c = certificates_true
