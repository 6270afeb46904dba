use Rattle.std.proofs.Common.{◌≡◌, take, length}
use Rattle.qf_ir.specs.Replay.{cells_from, inserted_cell}
use Rattle.qf_replay.proofs.insert.insert_cells.Given as goal

abbrev pub invariant-loop-column : goal.invariant-loop-column
invariant-loop-column l = record {
  width : length l.cells ≡ l.width;
  so_far : take l.column l.cells ≡ cells_from 0 l.column (inserted_cell l.columns l.tuple l.point);
}
