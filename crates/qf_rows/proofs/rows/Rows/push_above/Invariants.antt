use Rattle.std.proofs.Common.{◌≡◌, ◌++◌, drop}
use Rattle.qf_rows.specs.Encoding.{above_rows}
use Rattle.qf_rows.proofs.rows.Rows.push_above.Given as goal

abbrev pub invariant-loop-part : goal.invariant-loop-part
invariant-loop-part l =
    l.self.rows ++ above_rows (drop l.part-index l.parts) l.var ≡ l.initial.self.rows ++ above_rows l.parts l.var
