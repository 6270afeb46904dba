use Rattle.qf_app.proofs.Certifying.{accepted_is}
use Rattle.qf_app.proofs.checking.judged.Goals as goal

pub returns-in-Ok : goal.returns-in-Ok
returns-in-Ok c =
    λ bytes. accepted_is c.args.problem.now c.args.cert.now c.check.result c.in-Ok.verdict c.accepted.result bytes
    c.in-Ok.is c.check.ensures.judged c.check.ensures.holds c.accepted.ensures
