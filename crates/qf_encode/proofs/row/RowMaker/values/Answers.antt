use Rattle.std.proofs.Common.{◌+◌, drop}
use Rattle.qf_encode.specs.Coding.{Defs, made_value, made_values}
use Rattle.qf_encode.proofs.Growing.{values_grow}
use Rattle.qf_encode.proofs.Loops.{opened, first_few}
use Rattle.qf_encode.proofs.row.RowMaker.values.Goals as goal

pub value-requires : goal.value-requires
value-requires c =
    let columns = c.args.self.now.columns in
    let i = c.loop-set.set-index in
    let e = opened c.args.sets.now i c.set-item.result c.loop-set-test.true c.set-item.is in
    let first = made_value columns c.loop-set.self.maker c.set-item.result.1 in
    let rest = λ (d : Defs). made_values columns d (drop (i + 1) c.args.sets.now) in
    record { few = rw (c.as_slice.ensures, c.loop-set.invariant.columns) (first_few rest first (made_values columns c.args.self.now.maker c.args.sets.now).0 _ (values_grow columns first.0 (drop (i + 1) c.args.sets.now)) (rw e at c.loop-set.invariant.made) c.requires.few) }
