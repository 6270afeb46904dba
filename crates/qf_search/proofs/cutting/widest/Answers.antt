use Rattle.std.proofs.Common.{arith}
use Rattle.qf_search.proofs.Widths.{widest_none, widest_here, widest_still, one_value}
use Rattle.qf_search.proofs.cutting.widest.Goals as goal
use Rattle.qf_search.proofs.cutting.widest.Goals.{then-is_wider, else-is_wider}

pub loop-place-init : goal.loop-place-init
loop-place-init c = widest_none c.args.region.now

pub loop-place-preserved : goal.loop-place-preserved
loop-place-preserved c =
    let region = c.args.region.now in
    let place = c.loop-place.place in
    elim c.if-is_wider.branch [
      | then-is_wider w ↦ rw (w.most-is, w.most_whole-is, w.widest-is) (widest_here region place c.width-own.result c.width-whole.result c.get.result c.requires.spans c.get.ensures c.width-own.ensures (c.is_wider.ensures.wide w.if-is_wider.true))
      | else-is_wider w ↦ rw (w.most-is, w.most_whole-is, w.widest-is) (widest_still region place c.width-own.result c.loop-place.most c.loop-place.most_whole c.get.result c.loop-place.widest c.get.ensures c.width-own.ensures (λ a b. c.is_wider.ensures.none a b w.if-is_wider.false) c.loop-place.invariant)
    ]

pub returns-clause-none : goal.returns-clause-none
returns-clause-none c = one_value c.args.region.now c.loop-place.place c.loop-place.most c.loop-place.most_whole c.loop-place.widest (omega (arith, c.loop-place-test.false, c.len-place-end.ensures.len)) c.loop-place.invariant
