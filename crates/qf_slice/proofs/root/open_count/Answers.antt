use Rattle.std.proofs.Common.{◌∙◌, ap, sym, arith}
use Rattle.std.proofs.lemmas.List.Sums.{count_by_more_yes, count_by_more_no}
use Rattle.qf_slice.specs.RootBox.{is_open}
use Rattle.qf_slice.proofs.Boxes.{at-get, get-within}
use Rattle.qf_slice.proofs.root.open_count.Goals as goal
use Rattle.qf_slice.proofs.root.open_count.Goals.{then-is_open, else-is_open}

pub loop-i-preserved : goal.loop-i-preserved
loop-i-preserved c =
    let region = c.args.region.now in
    let r = c.get.result in
    let i = c.loop-i.i in
    let within = get-within region i r c.get.ensures in
    let is = at-get region i r r c.get.ensures in
    let so_far = c.loop-i.invariant.so_far in
    let few = c.loop-i.invariant.few in
    elim c.if-is_open.branch [
      | then-is_open w ↦
          let more = count_by_more_yes is_open region i r within (ap is_open is ∙ sym c.is_open.ensures ∙ w.if-is_open.true) in
          record { few = omega (arith, w.count-is, few); so_far = omega (arith, w.count-is, so_far, more) }
      | else-is_open w ↦
          let more = count_by_more_no is_open region i r within (ap is_open is ∙ sym c.is_open.ensures ∙ w.if-is_open.false) in
          record { few = omega (arith, w.count-is, few); so_far = omega (arith, w.count-is, so_far, more) }
    ]
