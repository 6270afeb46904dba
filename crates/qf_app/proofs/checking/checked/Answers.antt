use Rattle.qf_app.proofs.Reading.{check_is}
use Rattle.qf_app.proofs.checking.checked.Goals as goal

pub returns : goal.returns
returns c =
    check_is c.args.initial.now c.args.log.now c.args.complaints.now c.args.domains.now c.args.certificate.now c.in_ok-question.question c.answered-answer.result
    c.in_ok-question.ensures.question c.answered-answer.ensures
