use Rattle.std.proofs.Common.{◌∙◌}
use Rattle.qf_grammar.proofs.Views.{any_many}
use Rattle.qf_grammar.proofs.conditions.any_of.Goals as goal

pub returns-else-len-eq1 : goal.returns-else-len-eq1
returns-else-len-eq1 c = any_many c.args.parts (λ e. c.if-len-eq1.false (c.len.ensures ∙ e))
