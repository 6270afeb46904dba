use Rattle.std.proofs.lemmas.Result.{err_from_is_err_and}
use Rattle.qf_check.specs.Grounding.{instance}
use Rattle.qf_check.proofs.Judged.{judged_holds_in}
use Rattle.qf_check.proofs.certificate.check_in.Goals as goal

pub returns-in_err-grounds-clause-judged : goal.returns-in_err-grounds-clause-judged
returns-in_err-grounds-clause-judged c =
    let p = err_from_is_err_and c.from_residual.result c.from_residual.ensures.1 in rw (p.1, p.2) (λ answered. absurd answered)

pub returns-clause-judged : goal.returns-clause-judged
returns-clause-judged c = λ answered.
    (instance c.in_ok-grounds.grounds, c.in_ok-grounds.ensures.is, c.judge.ensures)

pub returns-clause-holds : goal.returns-clause-holds
returns-clause-holds c =
    let g = c.in_ok-grounds.grounds in
    judged_holds_in c.args.problem.now (instance g) c.args.cert.now c.in_ok-grounds.ensures.sound c.in_ok-grounds.ensures.is c.args.region.now c.judge.result (c.requires.inside g.root c.in_ok-grounds.ensures.root) c.judge.ensures
