use Rattle.qf_lex.proofs.Standing.{tokens_in_order, tokens_stand}
use Rattle.qf_lex.proofs.laws.tokens_stand_in_their_log.Goals as goal

pub returns : goal.returns
returns c = λ bytes ts h. (tokens_in_order bytes ts h, tokens_stand bytes ts h)
