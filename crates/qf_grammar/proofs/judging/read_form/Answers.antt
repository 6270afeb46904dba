use Rattle.qf_grammar.proofs.JudgingLaws.{found, only}
use Rattle.qf_grammar.proofs.judging.read_form.Goals as goal

pub returns-clause-found : goal.returns-clause-found
returns-clause-found c = found c.args.lexemes.now c.form.result c.form.ensures

pub returns-clause-only : goal.returns-clause-only
returns-clause-only c = only c.args.lexemes.now c.form.result c.form.ensures
