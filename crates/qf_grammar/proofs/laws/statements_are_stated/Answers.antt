use Rattle.qf_grammar.proofs.StatedLaws.{are_stated}
use Rattle.qf_grammar.proofs.laws.statements_are_stated.Goals as goal

pub returns : goal.returns
returns c = are_stated
