use Rattle.std.proofs.Common.{refl, arith, ◌∙◌}
use Rattle.std.proofs.lemmas.List.{length-set}
use Rattle.qf_ir.specs.Replay.{inserted_cell}
use Rattle.qf_replay.proofs.Items.{cells-step}
use Rattle.qf_replay.proofs.insert.insert_cells.Goals as goal

pub loop-column-preserved : goal.loop-column-preserved
loop-column-preserved c = record {
  width = length-set c.loop-column.cells c.loop-column.column c.inserted_cell.result ∙ c.loop-column.invariant.width;
  so_far = cells-step (inserted_cell c.args.columns.now c.args.tuple.now c.args.point.now) c.loop-column.cells _ c.loop-column.column c.inserted_cell.result
      (omega (arith, c.loop-column.invariant.width)) c.loop-column.invariant.so_far c.inserted_cell.ensures refl;
}
