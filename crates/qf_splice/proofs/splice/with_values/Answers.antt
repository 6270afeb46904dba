use Rattle.std.proofs.Common.{◌+◌, arith, rules, length, get_or, drop, pos, w64}
use Rattle.std.proofs.lemmas.Int.{to_z-of_z}
use Rattle.qf_splice.proofs.Splicing.{order_here, text_more, value_here, drop_one}
use Rattle.qf_splice.proofs.splice.with_values.Goals as goal

pub slice_bounds-extend-end : goal.slice_bounds-extend-end
slice_bounds-extend-end c =
    let here = order_here c.loop-number.at c.loop-number.number c.args.places.now (length c.args.bytes.now) (record { statement = 0; start = 0; end = 0; old = pos 0 }) c.loop-number-test.true c.loop-number.invariant.order in
    omega arith

pub add_literal-requires-clause-end : goal.add_literal-requires-clause-end
add_literal-requires-clause-end c =
    (order_here c.loop-number.at c.loop-number.number c.args.places.now _ _ c.loop-number-test.true c.loop-number.invariant.order).within

pub loop-number-preserved : goal.loop-number-preserved
loop-number-preserved c =
    let l = c.loop-number in
    let values = c.args.point.now in
    let place = get_or c.args.places.now l.number (record { statement = 0; start = 0; end = 0; old = pos 0 }) in
    let here = drop_one c.args.places.now l.number (record { statement = 0; start = 0; end = 0; old = pos 0 }) c.loop-number-test.true in
    let there = value_here values l.number c.get.result (omega arith) c.get.ensures in
    record {
      text = rw (c.in_ok-add_literal.ensures, c.in_ok-extend.ensures.ok, to_z-of_z w64 c.get.result (search rules)) (text_more c.args.bytes.now l.text l.at _ (drop (l.number + 1) c.args.places.now) _ (drop (l.number + 1) values) place c.get.result _ here there l.invariant.text);
      order = (order_here l.at l.number c.args.places.now _ _ c.loop-number-test.true l.invariant.order).rest_order;
    }
