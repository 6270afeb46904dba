use Rattle.std.proofs.Common.{◌≡◌, ◌++◌, map, drop}
use Rattle.qf_ir.specs.Numbered.{numbered_exprs}
use Rattle.qf_ir.proofs.making.renumber.tuples.Given as goal

-- what is made so far and what is left make the whole
abbrev pub invariant-loop-tuple : goal.invariant-loop-tuple
invariant-loop-tuple l = l.made ++ map (numbered_exprs l.numbering) (drop l.tuple-index l.tuples) ≡ map (numbered_exprs l.numbering) l.tuples
