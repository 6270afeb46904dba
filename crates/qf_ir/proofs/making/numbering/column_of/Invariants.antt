use Rattle.std.proofs.Common.{◌≡◌, ◌+◌, drop}
use Rattle.qf_ir.specs.Texts.{code_in}
use Rattle.qf_ir.specs.Tables.{names_of}
use Rattle.qf_ir.proofs.making.numbering.column_of.Given as goal

-- none of the columns so far has the name
abbrev pub invariant-loop-place : goal.invariant-loop-place
invariant-loop-place l = l.place + code_in (names_of (drop l.place l.columns)) l.name ≡ code_in (names_of l.columns) l.name
