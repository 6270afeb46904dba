use Rattle.std.proofs.Common.{◌≡◌, ◌++◌, map, drop, Some}
use Rattle.qf_goal.proofs.goal.kept_cells.Given as goal

abbrev pub invariant-loop-cell : goal.invariant-loop-cell
invariant-loop-cell l = l.wanted ++ map (λ cell. Some cell) (drop l.cell-index l.old) ≡ map (λ cell. Some cell) l.old
