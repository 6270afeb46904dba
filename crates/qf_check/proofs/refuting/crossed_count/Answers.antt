use Rattle.std.proofs.Common.{◌∙◌, ap, sym, arith, pos}
use Rattle.std.proofs.lemmas.List.Sums.{count_by_more_yes, count_by_more_no}
use Rattle.qf_check.specs.Undoing.{is_crossed}
use Rattle.qf_check.proofs.UndoLemmas.{get-at, get-within}
use Rattle.qf_check.proofs.refuting.crossed_count.Goals as goal
use Rattle.qf_check.proofs.refuting.crossed_count.Goals.{then-is_crossed, else-is_crossed}

pub loop-i-preserved : goal.loop-i-preserved
loop-i-preserved c =
    let bounds = c.args.bounds.now in
    let r = c.get.result in
    let i = c.loop-i.i in
    let within = get-within bounds i r c.get.ensures in
    let is = get-at bounds i r c.get.ensures in
    let so_far = c.loop-i.invariant.so_far in
    let few = c.loop-i.invariant.few in
    elim c.if-is_crossed.branch [
      | then-is_crossed w ↦
          let more = count_by_more_yes is_crossed bounds i (pos 0, pos 0) within (ap is_crossed is ∙ sym c.is_crossed.ensures ∙ w.if-is_crossed.true) in
          record { few = omega (arith, w.count-is, few); so_far = omega (arith, w.count-is, so_far, more) }
      | else-is_crossed w ↦
          let more = count_by_more_no is_crossed bounds i (pos 0, pos 0) within (ap is_crossed is ∙ sym c.is_crossed.ensures ∙ w.if-is_crossed.false) in
          record { few = omega (arith, w.count-is, few); so_far = omega (arith, w.count-is, so_far, more) }
    ]
