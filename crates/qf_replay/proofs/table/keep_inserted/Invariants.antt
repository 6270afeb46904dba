use Rattle.std.proofs.Common.{◌≡◌, ◌+◌, ◌++◌, drop, length}
use Rattle.qf_ir.specs.Replay.{inserted_count}
use Rattle.qf_ir.specs.Life.{inserted_survivors}
use Rattle.qf_ir.specs.Fits.{InsertedFit}
use Rattle.qf_replay.proofs.table.keep_inserted.Given as goal

abbrev pub invariant-loop-i : goal.invariant-loop-i
invariant-loop-i l = record {
  count : l.inserted + inserted_count (drop l.i l.statements) ≡ inserted_count l.statements;
  width : length l.cells ≡ l.width;
  room : length l.fresh ≡ length l.cells;
  fits : InsertedFit l.width (drop l.i l.statements) l.point;
  rows : l.rows ++ inserted_survivors l.width l.point (drop l.i l.statements) l.inserted
      ≡ l.fn.rows ++ inserted_survivors l.width l.point l.statements 0;
}
