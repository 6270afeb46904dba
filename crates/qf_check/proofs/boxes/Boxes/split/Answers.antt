use Rattle.std.proofs.Common.{w64}
use Rattle.std.proofs.lemmas.Int.{to_z-of_z}
use Rattle.std.proofs.lemmas.Result.{on_ok_weaker}
use Rattle.qf_check.proofs.SplitLemmas.{split_boxes, split_lies}
use Rattle.qf_check.proofs.boxes.Boxes.split.Goals as goal

pub returns-clause-boxes : goal.returns-clause-boxes
returns-clause-boxes c =
    let same = to_z-of_z w64 c.args.cut c.ranges.cut in
    let kept = rw same at c.keep_lower.ensures in
    on_ok_weaker c.push.result
    (λ pushed. split_boxes c.args.self.now c.keep_lower.new.region c.push.new.self c.args.param c.args.cut c.place_of-place.result c.get-whole.result c.requires.there c.place_of-place.ensures c.get-whole.ensures kept (rw same at pushed))
    c.push.ensures

pub returns-clause-inside : goal.returns-clause-inside
returns-clause-inside c = λ root lies.
    let same = to_z-of_z w64 c.args.cut c.ranges.cut in
    let kept = rw same at c.keep_lower.ensures in
    on_ok_weaker c.push.result
    (λ pushed. split_lies c.args.self.now c.keep_lower.new.region c.push.new.self c.args.param c.args.cut c.place_of-place.result c.get-whole.result root c.requires.inside c.place_of-place.ensures c.get-whole.ensures kept (rw same at pushed) lies)
    c.push.ensures
