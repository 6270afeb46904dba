use Rattle.std.proofs.lemmas.Result.{on_ok_weaker}
use Rattle.qf_check.proofs.UndoLemmas.{undid_by, other_goes_on}
use Rattle.qf_check.proofs.refuting.Refuting.next_case.Goals as goal

pub returns-in-Zero : goal.returns-in-Zero
returns-in-Zero c = λ system k.
    let at = c.loop-change.self in
    let change = c.in-Some.change in
    let rest = c.pop.new.self in
    let undid = undid_by at c.undo.new.self change rest c.in-Some.ensures c.undo.ensures in
    on_ok_weaker c.begin.result
    (λ took. rw c.loop-change.invariant.left at (other_goes_on system at c.undo.new.self c.begin.new.self change rest c.in-Zero.is (c.loop-change.invariant.tracked system k) undid took))
    c.begin.ensures
