use Rattle.qf_app.specs.Meaning as meaning
use Rattle.qf_app.proofs.Reading.{diagnosis_is}
use Rattle.qf_app.proofs.diagnosis.diagnosis.Goals as goal

pub returns : goal.returns
returns c =
    diagnosis_is (meaning.diagnosis c.args.words.now) c.args.initial.now c.args.log.now c.args.complaints.now c.args.domains.now c.in_ok-question.question c.answered-answer.result
    c.in_ok-question.ensures.question c.answered-answer.ensures
