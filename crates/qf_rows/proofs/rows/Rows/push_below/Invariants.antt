use Rattle.std.proofs.Common.{◌≡◌, ◌++◌, drop}
use Rattle.qf_rows.specs.Encoding.{below_rows}
use Rattle.qf_rows.proofs.rows.Rows.push_below.Given as goal

abbrev pub invariant-loop-part : goal.invariant-loop-part
invariant-loop-part l =
    l.self.rows ++ below_rows (drop l.part-index l.parts) l.var ≡ l.initial.self.rows ++ below_rows l.parts l.var
