use Rattle.std.proofs.Common.{◌≡◌, ◌++◌, map, drop}
use Rattle.qf_ir.specs.Numbered.{numbered_expr}
use Rattle.qf_ir.proofs.making.renumber.exprs.Given as goal

-- what is made so far and what is left make the whole
abbrev pub invariant-loop-old : goal.invariant-loop-old
invariant-loop-old l = l.made ++ map (numbered_expr l.numbering) (drop l.old-index l.exprs) ≡ map (numbered_expr l.numbering) l.exprs
