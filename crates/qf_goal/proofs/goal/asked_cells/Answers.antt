use Rattle.std.proofs.Common.{ap, ◌∙◌}
use Rattle.qf_ir.specs.Goals.{listed_or}
use Rattle.qf_goal.proofs.GoalSteps.{asked_step}
use Rattle.qf_goal.proofs.goal.asked_cells.Goals as goal

pub loop-column-preserved : goal.loop-column-preserved
loop-column-preserved c =
    asked_step c.args.listed.now c.args.old.now c.loop-column.wanted c.push.new.self _ c.listed_or.result c.loop-column.column c.args.width c.loop-column-test.true
    (c.listed_or.ensures ∙ ap (listed_or c.args.listed.now c.loop-column.column) c.old_cell.ensures)
    (c.in_ok-push.ensures.ok) c.loop-column.invariant
