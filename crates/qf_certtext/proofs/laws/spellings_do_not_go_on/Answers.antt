use Rattle.qf_certtext.proofs.OneReading.{spellings_do_not_go_on}
use Rattle.qf_certtext.proofs.laws.spellings_do_not_go_on.Goals as goal

pub returns : goal.returns
returns c = spellings_do_not_go_on
