use Rattle.qf_lin.proofs.Solutions.{solutions_keep_open}
use Rattle.qf_lin.proofs.laws.solutions_are_not_closed.Goals as goal

pub returns : goal.returns
returns c = solutions_keep_open
