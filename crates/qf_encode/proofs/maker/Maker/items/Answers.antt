use Rattle.std.proofs.Common.{◌≡◌, suc, ◌+◌, ◌-◌, arith, slice_index_or}
use Rattle.qf_ir.specs.declared.ast.Expr.TheVariants.{Word}
use Rattle.qf_ir.specs.Replay.{place_of}
use Rattle.qf_encode.specs.Coding.{Defs, made_item, made_items}
use Rattle.qf_encode.proofs.Growing.{items_grow}
use Rattle.qf_encode.proofs.Loops.{first_few, numbers_next}
use Rattle.qf_encode.proofs.maker.Maker.items.Goals as goal

pub item-requires : goal.item-requires
item-requires c =
    let columns = c.args.columns.now in
    let tuple = c.args.tuple.now in
    let i = c.loop-column.column in
    let left : c.args.width - i ≡ suc (c.args.width - (i + 1)) = omega (arith, c.loop-column-test.true) in
    let first = made_item c.loop-column.self (slice_index_or tuple (place_of columns i) (Word 0)) in
    let rest = λ (d : Defs). made_items columns tuple d (i + 1) (c.args.width - (i + 1)) in
    record { few = rw c.place_of.ensures (first_few rest first (made_items columns tuple c.args.self.now 0 c.args.width).0 _ (items_grow columns tuple (c.args.width - (i + 1)) (i + 1) first.0) (rw left at c.loop-column.invariant.made) c.requires.few) }

pub loop-column-preserved : goal.loop-column-preserved
loop-column-preserved c =
    let columns = c.args.columns.now in
    let tuple = c.args.tuple.now in
    let i = c.loop-column.column in
    let left : c.args.width - i ≡ suc (c.args.width - (i + 1)) = omega (arith, c.loop-column-test.true) in
    let first = made_item c.loop-column.self (slice_index_or tuple (place_of columns i) (Word 0)) in
    let rest = λ (d : Defs). made_items columns tuple d (i + 1) (c.args.width - (i + 1)) in
    let next = numbers_next rest first c.item.new.self _ c.loop-column.numbers c.push.new.self _ c.in_ok-number.number (rw left at c.loop-column.invariant.made) (rw left at c.loop-column.invariant.numbers) (rw c.place_of.ensures at c.in_ok-number.ensures.made) (rw c.place_of.ensures at c.in_ok-number.ensures.number) c.in_ok-push.ensures.ok in
    record { made = next.0; numbers = next.1 }
