use Rattle.std.proofs.Common.{◌≡◌, ◌++◌, drop, length}
use Rattle.qf_base.specs.declared.names.RowName.TheVariants.{Start}
use Rattle.qf_ir.specs.Replay.{named_rows}
use Rattle.qf_ir.specs.Plan.{RowsAre}
use Rattle.qf_ir.specs.Life.{survivors}
use Rattle.qf_ir.specs.Fits.{LivesFit}
use Rattle.qf_replay.proofs.table.keep_starts.Given as goal

abbrev pub invariant-loop-i : goal.invariant-loop-i
invariant-loop-i l = record {
  width : RowsAre (length l.cells) l.table;
  room : length l.fresh ≡ length l.cells;
  fits : LivesFit l.statements (drop l.i l.table) l.point;
  rows : l.rows ++ survivors l.point l.statements (named_rows (λ k. Start k) l.i (drop l.i l.table))
      ≡ l.fn.rows ++ survivors l.point l.statements (named_rows (λ k. Start k) 0 l.table);
}
