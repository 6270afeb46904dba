use Rattle.std.proofs.Common.{◌≡◌, drop}
use Rattle.qf_ir.specs.Checked.{tuple_agrees}
use Rattle.qf_ir.proofs.making.types.tuple_agrees.Given as goal

-- the answer for what is left is that for the whole
abbrev pub invariant-loop-place : goal.invariant-loop-place
invariant-loop-place l = tuple_agrees l.kinds (drop l.place l.columns) (drop l.place l.tuple) ≡ tuple_agrees l.kinds l.columns l.tuple
