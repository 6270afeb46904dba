use Rattle.std.proofs.Common.{◌≡◌, drop}
use Rattle.qf_ir.specs.Checked.{is_among}
use Rattle.qf_ir.proofs.making.faults.is_among.Given as goal

-- the answer for what is left is that for the whole
abbrev pub invariant-loop-other : goal.invariant-loop-other
invariant-loop-other l = is_among (drop l.other-index l.columns) l.column ≡ is_among l.columns l.column
