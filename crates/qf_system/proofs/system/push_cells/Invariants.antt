use Rattle.std.proofs.Common.{◌≡◌, ◌++◌, drop, length}
use Rattle.qf_encode.specs.Systems.{cells_rows}
use Rattle.qf_system.proofs.system.push_cells.Given as goal

abbrev pub invariant-loop-place : goal.invariant-loop-place
invariant-loop-place l = record {
  rest : l.rows ++ cells_rows (drop l.place l.columns) (drop l.place l.wanted) ≡ l.initial.rows ++ cells_rows l.columns l.wanted;
  end : l.place-end ≡ length l.columns;
}
