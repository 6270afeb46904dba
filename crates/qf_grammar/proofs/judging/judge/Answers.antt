use Rattle.std.proofs.Common.{◌∙◌, sym}
use Rattle.qf_grammar.specs.Statements.{judged}
use Rattle.qf_grammar.proofs.StatedLaws.{judged_as, gives_same}
use Rattle.qf_grammar.proofs.judging.judge.Goals as goal

pub returns-in-Ok : goal.returns-in-Ok
returns-in-Ok c =
    gives_same c.judge_form.result (judged c.args.numbers.now c.args.first c.args.number c.args.piece.now)
    (c.judge_form.ensures ∙ judged_as c.args.numbers.now c.args.first c.args.number c.args.piece.now c.in-Some.form c.in-Ok.uses (sym c.in-Some.is ∙ c.in_ok-form.ensures) c.in-Ok.ensures)
