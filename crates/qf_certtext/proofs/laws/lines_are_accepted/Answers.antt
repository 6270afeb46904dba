use Rattle.qf_certtext.proofs.Accepting.{lines_are_accepted}
use Rattle.qf_certtext.proofs.laws.lines_are_accepted.Goals as goal

pub returns : goal.returns
returns c = lines_are_accepted
