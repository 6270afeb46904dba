-- What the nodes of a certificate are held against.
use Rattle.std.specs.Prelude.{◌≡◌, ℕ, true, [], length}
use Rattle.std.specs.List.Sorted.{IsNonDecreasing}
use Rattle.qf_base.specs.Values.{Bounds}
use Rattle.qf_circuit.specs.Circuits.{hull_of}
use Rattle.qf_circuit.specs.Limits.{HullsFit}
use Rattle.qf_slice.specs.RootBox.{IsRootBox}
use Rattle.qf_tree.specs.Certificates.{Instance, answer_is_right}
use Rattle.qf_tree.specs.Steps.{RowsFit}
use Rattle.qf_instance.specs.declared.row.RowSystem.{RowSystem}
use Rattle.qf_instance.specs.Instances.{instance_of, is_marked}
use Rattle.qf_check.specs.declared.grounds.Grounds.{Grounds}
use Rattle.qf_check.specs.Undoing.{AreVars}

abbrev pub instance : Grounds → Instance
instance g = instance_of g.problem.now g.root (λ (k : ℕ). is_marked g.marks k)

-- the box is the root box, and a stated point is right
pub record AreGrounds (g : Grounds) : Type 0 where
  pub root : IsRootBox g.problem.now g.root
  pub stated : answer_is_right (instance g) g.answer.now ≡ true

-- the system of a row can be used over the hull of a box
pub record FitsBox (made : RowSystem) (region : Bounds) : Type 0 where
  pub hulls : HullsFit region [] made.coded.circuit
  pub selectors : AreVars (length (hull_of region made.coded.circuit)) made.system.selectors
  pub rising : IsNonDecreasing made.system.selectors
  pub fits : RowsFit made.system (hull_of region made.coded.circuit)
