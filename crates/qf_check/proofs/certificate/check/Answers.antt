use Rattle.std.proofs.lemmas.Result.{err_from_is_err_and}
use Rattle.qf_instance.proofs.Boxes.{roots_span}
use Rattle.qf_check.specs.Grounding.{instance}
use Rattle.qf_check.proofs.Judged.{judged_holds}
use Rattle.qf_check.proofs.certificate.check.Goals as goal

pub returns-in_err-grounds-clause-judged : goal.returns-in_err-grounds-clause-judged
returns-in_err-grounds-clause-judged c =
    let p = err_from_is_err_and c.from_residual.result c.from_residual.ensures.1 in rw (p.1, p.2) (λ answered. absurd answered)

pub judge-requires-clause-inside : goal.judge-requires-clause-inside
judge-requires-clause-inside c =
    (roots_span c.args.problem.now c.in_ok-grounds.grounds.root c.in_ok-grounds.ensures.sound c.in_ok-grounds.ensures.root).1

pub returns-clause-judged : goal.returns-clause-judged
returns-clause-judged c = λ answered.
    (instance c.in_ok-grounds.grounds, c.in_ok-grounds.ensures.is, c.judge.ensures)

pub returns-clause-holds : goal.returns-clause-holds
returns-clause-holds c =
    judged_holds c.args.problem.now (instance c.in_ok-grounds.grounds) c.args.cert.now c.in_ok-grounds.ensures.sound c.in_ok-grounds.ensures.is c.judge.result c.judge.ensures
