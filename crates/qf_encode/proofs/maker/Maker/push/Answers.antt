use Rattle.std.proofs.Common.{ap, arith, length}
use Rattle.qf_encode.proofs.Params.{knows_pushed}
use Rattle.qf_encode.proofs.maker.Maker.push.Goals as goal

pub invariant_of-self-2 : goal.invariant_of-self-2
invariant_of-self-2 c =
    rw c.in_ok-push.ensures.ok (knows_pushed c.self.inside.params c.self.inside.defs c.args.def c.self.invariant c.requires.other (omega (arith, ap length c.self.view_is, c.requires.few)))
