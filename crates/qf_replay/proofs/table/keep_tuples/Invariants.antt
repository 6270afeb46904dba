use Rattle.std.proofs.Common.{◌≡◌, ◌+◌, ◌++◌, drop, length}
use Rattle.qf_base.specs.declared.names.RowName.TheVariants.{Inserted}
use Rattle.qf_ir.specs.Replay.{named_rows, inserted_table}
use Rattle.qf_ir.specs.Life.{survivors}
use Rattle.qf_ir.specs.Fits.{LivesFit, TuplesFit}
use Rattle.qf_replay.proofs.table.keep_tuples.Given as goal

abbrev pub invariant-loop-tuple : goal.invariant-loop-tuple
invariant-loop-tuple l = record {
  width : length l.cells ≡ l.width;
  room : length l.fresh ≡ length l.cells;
  number : l.number ≡ l.before + l.tuple-index;
  items : TuplesFit (drop l.tuple-index l.tuples) l.point;
  lives : LivesFit l.rest (inserted_table l.width l.columns (drop l.tuple-index l.tuples) l.point) l.point;
  rows : l.rows ++ survivors l.point l.rest (named_rows (λ k. Inserted k) l.number (inserted_table l.width l.columns (drop l.tuple-index l.tuples) l.point))
      ≡ l.fn.rows ++ survivors l.point l.rest (named_rows (λ k. Inserted k) l.before (inserted_table l.width l.columns l.tuples l.point));
}
