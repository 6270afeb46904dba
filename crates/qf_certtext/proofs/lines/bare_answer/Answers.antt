use Rattle.qf_certtext.proofs.Cuts.{answer_with_words}
use Rattle.qf_certtext.proofs.lines.bare_answer.Goals as goal

pub returns-in-Some : goal.returns-in-Some
returns-in-Some c = rw c.in-Some.is (answer_with_words c.args.kind.now c.in-Some.field-0.now)
