use Rattle.qf_log.specs.Said.{key_of}
use Rattle.qf_log.proofs.words.key_of.Goals as goal

pub returns : goal.returns
unfolding key_of
returns c = c.find_key.ensures
