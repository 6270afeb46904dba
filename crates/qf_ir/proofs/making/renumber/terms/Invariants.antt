use Rattle.std.proofs.Common.{◌≡◌, ◌++◌, map, drop}
use Rattle.qf_ir.specs.Numbered.{numbered_term}
use Rattle.qf_ir.proofs.making.renumber.terms.Given as goal

-- what is made so far and what is left make the whole
abbrev pub invariant-loop-old : goal.invariant-loop-old
invariant-loop-old l = l.made ++ map (numbered_term l.numbering) (drop l.old-index l.terms) ≡ map (numbered_term l.numbering) l.terms
