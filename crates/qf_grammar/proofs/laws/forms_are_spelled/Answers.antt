use Rattle.std.proofs.Common.{sym}
use Rattle.qf_grammar.proofs.StatementLaws.{form_is, form_again}
use Rattle.qf_grammar.proofs.laws.forms_are_spelled.Goals as goal

pub returns : goal.returns
returns c = λ xs f. (λ e. form_is xs f (sym e), λ h. form_again xs f h)
