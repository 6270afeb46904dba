use Rattle.std.proofs.Common.{◌≡◌, ◌++◌, map, drop}
use Rattle.qf_ir.specs.Numbered.{numbered_statement}
use Rattle.qf_ir.proofs.making.renumber.renumbered.Given as goal

-- what is made so far and what is left make the whole
abbrev pub invariant-loop-old : goal.invariant-loop-old
invariant-loop-old l = l.made ++ map (numbered_statement l.numbering) (drop l.old-index l.statements) ≡ map (numbered_statement l.numbering) l.statements
