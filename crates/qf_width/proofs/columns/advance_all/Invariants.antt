use Rattle.std.proofs.Common.{◌≡◌, ◌+◌, drop, length}
use Rattle.qf_ir.specs.Width.{widths_from}
use Rattle.qf_width.proofs.columns.advance_all.Given as goal

abbrev pub invariant-loop-i : goal.invariant-loop-i
invariant-loop-i l = record {
  rest : widths_from (l.i + 1) (drop l.i l.statements) l.domains l.widths ≡ widths_from 1 l.statements l.domains l.fn.widths;
  len : length l.widths ≡ length l.fn.widths;
}
