use Rattle.std.proofs.Common.{◌∙◌, sym}
use Rattle.qf_ir.proofs.Tallies.{agrees-past}
use Rattle.qf_ir.proofs.making.types.tuple_agrees.Goals as goal

pub returns-then-place-tuple : goal.returns-then-place-tuple
returns-then-place-tuple c = sym (agrees-past c.args.kinds.now c.args.columns.now c.args.tuple.now c.loop-place.place c.if-place-tuple.true) ∙ c.loop-place.invariant
