use Rattle.std.proofs.Common.{◌≡◌, drop, length}
use Rattle.qf_ir.specs.Repairs.{meet_cells}
use Rattle.qf_replay.proofs.goals.meet_cells.Given as goal

abbrev pub invariant-loop-i : goal.invariant-loop-i
invariant-loop-i l = record {
  same_length : length l.wanted ≡ length l.cells;
  rest : meet_cells (drop l.i l.cells) (drop l.i l.wanted) ≡ meet_cells l.cells l.wanted;
}
