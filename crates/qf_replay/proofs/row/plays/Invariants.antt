use Rattle.std.proofs.Common.{◌≡◌, drop, length}
use Rattle.qf_ir.specs.Life.{first_moment, last_moment, ending}
use Rattle.qf_ir.specs.Fits.{LifeFits}
use Rattle.qf_replay.proofs.row.plays.Given as goal

abbrev pub invariant-loop-statement : goal.invariant-loop-statement
invariant-loop-statement l = record {
  room : length l.fresh ≡ length l.cells;
  fits : LifeFits (drop l.statement-index l.statements) (first_moment l.cells) l.point;
  rest : ending (last_moment l.point (drop l.statement-index l.statements) (first_moment l.cells)) ≡ ending (last_moment l.point l.statements (first_moment l.fn.cells));
}
