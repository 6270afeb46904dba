-- The atoms of a condition's parts.
use Rattle.std.proofs.Common.{◌≡◌, ap, refl, List, [], ◌∷◌, ◌++◌}
use Rattle.std.specs.List.{flat_map}
use Rattle.std.proofs.lemmas.List.{append-nil}
use Rattle.qf_ir.specs.declared.ast.Cond.{Cond}
use Rattle.qf_ir.specs.declared.ast.Cond.TheVariants.{All, Any, Not}
use Rattle.qf_impact.specs.Atoms.{cond_atoms}

pub atoms_all : (parts : List Cond) → cond_atoms (All parts) ≡ flat_map cond_atoms parts
unfolding Rattle.qf_ir.specs.declared.ast.Cond.TheBlock.hidden-the_row-Cond-0 denote.Hole.Carrier.hidden
atoms_all [] = refl
atoms_all (part ∷ parts) = ap (λ rest. cond_atoms part ++ rest) (atoms_all parts)

pub atoms_any : (parts : List Cond) → cond_atoms (Any parts) ≡ flat_map cond_atoms parts
unfolding Rattle.qf_ir.specs.declared.ast.Cond.TheBlock.hidden-the_row-Cond-0 denote.Hole.Carrier.hidden
atoms_any [] = refl
atoms_any (part ∷ parts) = ap (λ rest. cond_atoms part ++ rest) (atoms_any parts)

pub atoms_not : (part : Cond) → cond_atoms (Not part) ≡ cond_atoms part
unfolding Rattle.qf_ir.specs.declared.ast.Cond.TheBlock.hidden-the_row-Cond-0 denote.Hole.Carrier.hidden Rattle.qf_ir.specs.declared.ast.Cond.TheBlock.hidden-the_row-Cond-1
atoms_not part = append-nil (cond_atoms part)
