use Rattle.std.proofs.Common.{◌≡◌, drop}
use Rattle.std.specs.List.{list_all}
use Rattle.qf_ir.specs.Checked.{is_among}
use Rattle.qf_ir.proofs.making.faults.are_among.Given as goal

-- the answer for what is left is that for the whole
abbrev pub invariant-loop-column : goal.invariant-loop-column
invariant-loop-column l = list_all (is_among l.columns) (drop l.column-index l.all) ≡ list_all (is_among l.columns) l.all
