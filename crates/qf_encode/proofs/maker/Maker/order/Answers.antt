use Rattle.qf_encode.proofs.Loops.{order_few}
use Rattle.qf_encode.proofs.maker.Maker.order.Goals as goal

pub sign-requires-clause-few : goal.sign-requires-clause-few
sign-requires-clause-few c =
    order_few c.args.columns.now c.args.self.now c.args.first.now c.args.second.now c.args.third.now c.args.fourth.now _ c.requires.few
