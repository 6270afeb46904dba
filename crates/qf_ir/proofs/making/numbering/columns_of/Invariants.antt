use Rattle.std.proofs.Common.{◌≡◌, ◌++◌, map, drop}
use Rattle.qf_ir.specs.Texts.{code_in}
use Rattle.qf_ir.specs.Tables.{names_of}
use Rattle.qf_ir.proofs.making.numbering.columns_of.Given as goal

-- the columns so far and those of what is left are all
abbrev pub invariant-loop-name : goal.invariant-loop-name
invariant-loop-name l = l.places ++ map (code_in (names_of l.columns)) (drop l.name-index l.names) ≡ map (code_in (names_of l.columns)) l.names
