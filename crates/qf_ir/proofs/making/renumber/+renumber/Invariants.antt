use Rattle.std.proofs.Common.{◌≡◌, ◌++◌, map, drop}
use Rattle.qf_ir.specs.Numbered.{numbered_cond}
use Rattle.qf_ir.proofs.making.renumber.+renumber.Given as goal

-- what is made so far and what is left make the whole
abbrev pub invariant-conds-loop-old : goal.invariant-conds-loop-old
invariant-conds-loop-old l = l.made ++ map (numbered_cond l.numbering) (drop l.old-index l.conds) ≡ map (numbered_cond l.numbering) l.conds
