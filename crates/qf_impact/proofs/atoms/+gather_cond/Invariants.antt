use Rattle.std.proofs.Common.{◌≡◌, ◌++◌, drop}
use Rattle.std.specs.List.{flat_map}
use Rattle.qf_impact.specs.Atoms.{cond_atoms}
use Rattle.qf_impact.proofs.atoms.+gather_cond.Given as goal

abbrev pub invariant-gather_parts-loop-part : goal.invariant-gather_parts-loop-part
invariant-gather_parts-loop-part l = l.atoms.items ++ flat_map cond_atoms (drop l.part-index l.parts) ≡ l.fn.atoms.items ++ flat_map cond_atoms l.parts
