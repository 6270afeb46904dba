use Rattle.std.proofs.Common.{◌≡◌, ◌++◌, map, drop}
use Rattle.qf_ir.specs.Numbered.{numbered_set}
use Rattle.qf_ir.proofs.making.renumber.sets.Given as goal

-- what is made so far and what is left make the whole
abbrev pub invariant-loop-set : goal.invariant-loop-set
invariant-loop-set l = l.made ++ map (numbered_set l.numbering) (drop l.set-index l.sets) ≡ map (numbered_set l.numbering) l.sets
