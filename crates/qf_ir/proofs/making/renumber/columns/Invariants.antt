use Rattle.std.proofs.Common.{◌≡◌, ◌++◌, map, drop}
use Rattle.qf_ir.specs.Numbered.{found_at}
use Rattle.qf_ir.proofs.making.renumber.columns.Given as goal

-- what is made so far and what is left make the whole
abbrev pub invariant-loop-place : goal.invariant-loop-place
invariant-loop-place l = l.made ++ map (found_at l.numbering.columns) (drop l.place-index l.places) ≡ map (found_at l.numbering.columns) l.places
