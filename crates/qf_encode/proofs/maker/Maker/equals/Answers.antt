use Rattle.std.proofs.Common.{◌+◌, drop}
use Rattle.qf_encode.specs.Coding.{Defs, made_equal, made_equals}
use Rattle.qf_encode.proofs.Growing.{equals_grow}
use Rattle.qf_encode.proofs.Loops.{opened, first_few, numbers_next}
use Rattle.qf_encode.proofs.maker.Maker.equals.Goals as goal

pub equal-requires-clause-few : goal.equal-requires-clause-few
equal-requires-clause-few c =
    let columns = c.args.columns.now in
    let x = c.args.x.now in
    let i = c.loop-item.item-index in
    let e = opened c.args.items.now i c.item-item.result c.loop-item-test.true c.item-item.is in
    let first = made_equal columns c.loop-item.self x c.item-item.result in
    let rest = λ (d : Defs). made_equals columns d x (drop (i + 1) c.args.items.now) in
    first_few rest first (made_equals columns c.args.self.now x c.args.items.now).0 _ (equals_grow columns first.0 x (drop (i + 1) c.args.items.now)) (rw e at c.loop-item.invariant.made) c.requires.few

pub loop-item-preserved : goal.loop-item-preserved
loop-item-preserved c =
    let columns = c.args.columns.now in
    let x = c.args.x.now in
    let i = c.loop-item.item-index in
    let e = opened c.args.items.now i c.item-item.result c.loop-item-test.true c.item-item.is in
    let first = made_equal columns c.loop-item.self x c.item-item.result in
    let rest = λ (d : Defs). made_equals columns d x (drop (i + 1) c.args.items.now) in
    let next = numbers_next rest first c.equal.new.self _ c.loop-item.numbers c.push.new.self _ c.in_ok-number.number (rw e at c.loop-item.invariant.made) (rw e at c.loop-item.invariant.numbers) c.in_ok-number.ensures.made c.in_ok-number.ensures.number c.in_ok-push.ensures.ok in
    let turn = rw e at c.loop-item.invariant.turn in
    record { made = next.0; numbers = next.1; turn = turn.1 }
