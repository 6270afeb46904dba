use Rattle.qf_splice.proofs.SaysAgain.{says_again}
use Rattle.qf_splice.proofs.laws.repaired_logs_say_the_same.Goals as goal

pub returns : goal.returns
returns c = says_again
