use Rattle.std.proofs.Common.{ap, length, arith}
use Rattle.qf_log.proofs.Lists.{all_uses}
use Rattle.qf_log.proofs.ParseFacts.{few_used, few_stated}
use Rattle.qf_log.proofs.parsing.read.Goals as goal

pub body_of-body-requires-clause-used : goal.body_of-body-requires-clause-used
body_of-body-requires-clause-used c =
    let few = few_used c.args.numbers.now c.args.lexemes.now c.in_ok-stated.stated c.in_ok-stated.ensures in
    omega (arith, few, ap (λ s. length (all_uses s)) c.as_slice.ensures, c.requires.few)

pub body_of-body-requires-clause-few : goal.body_of-body-requires-clause-few
body_of-body-requires-clause-few c =
    let few = few_stated c.args.numbers.now c.args.lexemes.now c.in_ok-stated.stated c.in_ok-stated.ensures in
    omega (arith, few, ap length c.as_slice.ensures, c.requires.few)
