use Rattle.qf_lex.proofs.Either.{either}
use Rattle.qf_lex.proofs.Only.{one_reading, one_fault, no_both}
use Rattle.qf_lex.proofs.laws.each_log_has_one_reading.Goals as goal

pub returns : goal.returns
returns c = λ bytes. record { either = either bytes; not_both = no_both bytes; same_tokens = one_reading bytes; same_fault = one_fault bytes }
