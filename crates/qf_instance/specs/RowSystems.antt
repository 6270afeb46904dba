-- The system of a row of a problem, and over which boxes it can be used.
use Rattle.std.specs.Prelude.{◌≡◌, false}
use Rattle.std.specs.declared.option.Option.TheVariants.{Some}
use Rattle.qf_base.specs.declared.names.RowName.{RowName}
use Rattle.qf_base.specs.Values.{Bounds}
use Rattle.qf_lin.specs.declared.inequality.System.{System}
use Rattle.qf_lin.specs.Inequalities.{IsWellFormed, is_empty}
use Rattle.qf_circuit.specs.Circuits.{hull_of}
use Rattle.qf_goal.specs.Case.{Case, goal_at}
use Rattle.qf_tree.specs.Steps.{RowsFit}
use Rattle.qf_encode.specs.Lives.{BoxIn}
use Rattle.qf_encode.specs.Systems.{system_of}
use Rattle.qf_system.specs.WidthsKept.{IsSmallCircuit}
use Rattle.qf_instance.specs.declared.row.RowSystem.{RowSystem}
use Rattle.qf_instance.specs.Instances.{case_circuit}

-- the system of the row's circuit and goal over the root box; over each box in it whose intervals are not empty, the hull can
-- be computed, and the inequalities can be used there
pub record IsRowSystem (case : Case) (root : Bounds) (row : RowName) (made : RowSystem) : Type 0 where
  pub coded : case_circuit case row ≡ Some made.coded
  pub system : made.system ≡ system_of made.coded root (goal_at case row)
  pub well_formed : IsWellFormed made.system
  pub small : (region : Bounds) → BoxIn region root → IsSmallCircuit region made.coded
  pub fits : (region : Bounds) → BoxIn region root → RowsFit made.system (hull_of region made.coded.circuit)

-- the system can be used over the bounds, unless they are empty
abbrev pub FitsUnlessEmpty : System → Bounds → Type 0
FitsUnlessEmpty system bounds = is_empty bounds ≡ false → RowsFit system bounds
