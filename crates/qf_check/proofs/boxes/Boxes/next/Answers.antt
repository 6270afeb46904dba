use Rattle.std.proofs.Common.{◌∙◌}
use Rattle.std.proofs.lemmas.Result.{on_ok_weaker}
use Rattle.qf_check.proofs.SplitLemmas.{upper_boxes, upper_lies, rejoined_boxes, rejoined_lies}
use Rattle.qf_check.proofs.boxes.Boxes.next.Goals as goal

pub returns-else-frame-clause-boxes : goal.returns-else-frame-clause-boxes
returns-else-frame-clause-boxes c =
    let at = c.loop-frame.self in
    let root = c.requires.inside.0 in
    let lies = c.loop-frame.invariant.inside root c.requires.inside.1 in
    on_ok_weaker c.enter_upper.result
    (λ entered. upper_boxes root at c.enter_upper.new.self c.in-Some.frame c.pop.new.self c.in-Some.ensures lies c.enter_upper.ensures.region entered c.if-frame.false c.loop-frame.invariant.there c.enter_upper.ensures.is_done ∙ c.loop-frame.invariant.left)
    c.enter_upper.ensures.frames

pub returns-else-frame-clause-inside : goal.returns-else-frame-clause-inside
returns-else-frame-clause-inside c = λ root lies.
    on_ok_weaker c.enter_upper.result
    (λ entered. upper_lies root c.loop-frame.self c.enter_upper.new.self c.in-Some.frame c.pop.new.self c.in-Some.ensures (c.loop-frame.invariant.inside root lies) c.enter_upper.ensures.region entered)
    c.enter_upper.ensures.frames

pub loop-frame-preserved : goal.loop-frame-preserved
loop-frame-preserved c = record {
  there = c.loop-frame.invariant.there;
  inside = λ root lies. rejoined_lies c.loop-frame.self c.put.new.region c.in-Some.frame c.pop.new.self c.in-Some.ensures c.put.ensures root c.loop-frame.self.is_done (c.loop-frame.invariant.inside root lies);
  left = rejoined_boxes c.loop-frame.self c.put.new.region c.in-Some.frame c.pop.new.self c.in-Some.ensures c.put.ensures c.if-frame.true ∙ c.loop-frame.invariant.left;
}
