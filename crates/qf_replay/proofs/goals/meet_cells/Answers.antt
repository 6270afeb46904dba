use Rattle.std.proofs.Common.{arith, sym}
use Rattle.qf_replay.proofs.Meeting.{uneven, meets-next, misses-here}
use Rattle.qf_replay.proofs.goals.meet_cells.Goals as goal

pub returns-then-wanted-cells : goal.returns-then-wanted-cells
returns-then-wanted-cells c = sym (uneven c.args.cells.now c.args.wanted.now c.if-wanted-cells.true)

pub returns-then-not-meets_cell : goal.returns-then-not-meets_cell
returns-then-not-meets_cell c =
    misses-here c.args.cells.now c.args.wanted.now c.loop-i.i _ _ _ (omega arith) (omega (arith, c.loop-i.invariant.same_length)) c.loop-i.invariant.rest c.if-not-meets_cell.ensures

pub loop-i-preserved : goal.loop-i-preserved
loop-i-preserved c = record {
  same_length = c.loop-i.invariant.same_length;
  rest = meets-next c.args.cells.now c.args.wanted.now c.loop-i.i _ _ _ (omega arith) (omega (arith, c.loop-i.invariant.same_length)) c.loop-i.invariant.rest c.if-not-meets_cell.ensures;
}
