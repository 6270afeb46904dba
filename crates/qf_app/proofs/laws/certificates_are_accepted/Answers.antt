use Rattle.qf_app.proofs.Accepting.{certificates_are_accepted}
use Rattle.qf_app.proofs.laws.certificates_are_accepted.Goals as goal

pub returns : goal.returns
returns c = certificates_are_accepted
