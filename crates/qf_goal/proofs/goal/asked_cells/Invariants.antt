use Rattle.std.proofs.Common.{◌≡◌, ◌-◌, ◌++◌}
use Rattle.qf_ir.specs.Goals.{asked_cells}
use Rattle.qf_goal.proofs.goal.asked_cells.Given as goal

abbrev pub invariant-loop-column : goal.invariant-loop-column
invariant-loop-column l = l.wanted ++ asked_cells l.column (l.width - l.column) l.listed l.old ≡ asked_cells 0 l.width l.listed l.old
