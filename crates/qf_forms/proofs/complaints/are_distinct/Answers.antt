use Rattle.std.proofs.Common.{◌+◌, ◌∙◌, drop}
use Rattle.qf_forms.proofs.Distinct.{distinct-start, held-name, added-name, next_here}
use Rattle.qf_forms.proofs.complaints.are_distinct.Goals as goal

pub loop-cell-init : goal.loop-cell-init
loop-cell-init c = rw c.new-names.ensures.empty (distinct-start c.args.stated.now)

pub returns-then-not-branch : goal.returns-then-not-branch
returns-then-not-branch c =
    let l = c.loop-cell in
    let here = next_here c.args.stated.now l.cell-index c.cell-item.result c.loop-cell-test.true c.cell-item.is in
    held-name c.in_ok-name.name l.names.keys c.cell-item.result (drop (l.cell-index + 1) c.args.stated.now) c.in_ok-insert.field-0 _
    (c.in_ok-name.ensures.ok ∙ c.as_str.ensures) c.if-not-branch.true c.in_ok-insert.ensures.added (rw here at l.invariant)

pub loop-cell-preserved : goal.loop-cell-preserved
loop-cell-preserved c =
    let l = c.loop-cell in
    let here = next_here c.args.stated.now l.cell-index c.cell-item.result c.loop-cell-test.true c.cell-item.is in
    added-name c.in_ok-name.name l.names.keys c.insert.new.self.keys c.cell-item.result (drop (l.cell-index + 1) c.args.stated.now) c.in_ok-insert.field-0 _
    (c.in_ok-name.ensures.ok ∙ c.as_str.ensures) c.if-not-branch.false c.in_ok-insert.ensures.added c.in_ok-insert.ensures.keys (rw here at l.invariant)
