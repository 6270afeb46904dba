-- What the system of a row asks of its goal, and what may be relied on where its inequalities are used.
use Rattle.std.specs.Prelude.{◌≡◌, ℕ, ◌<◌, ◌≤◌, ◌^◌, List, length, unsigned_abs, All}
use Rattle.std.specs.declared.option.Option.{Option}
use Rattle.std.specs.declared.option.Option.TheVariants.{Some, None}
use Rattle.qf_base.specs.Values.{Bounds}
use Rattle.qf_lin.specs.Inequalities.{AreSmall}
use Rattle.qf_circuit.specs.Circuits.{IsCircuit, circuit_size, hull_of}
use Rattle.qf_rows.specs.Systems.{IsModest}
use Rattle.qf_ir.specs.declared.cell.Cell.{Cell}
use Rattle.qf_ir.specs.declared.cell.Goal.{Goal}
use Rattle.qf_ir.specs.declared.cell.Goal.TheVariants as goal
use Rattle.qf_ir.specs.Value.{number_of}
use Rattle.qf_encode.specs.declared.coded.Coded.{Coded}
use Rattle.qf_encode.specs.Systems.{system_of}

-- a stated cell is within 2^50 in size
abbrev pub IsPlainCell : Option Cell → Type 0
IsPlainCell None = Unit {0}
IsPlainCell (Some cell) = unsigned_abs (number_of cell) ≤ 2 ^ 50

-- a goal that is there has one cell for each column
abbrev pub SuitsColumns : List ℕ → Goal → Type 0
SuitsColumns columns goal.Gone = Unit {0}
SuitsColumns columns (goal.There wanted) = (length wanted ≡ length columns) × All IsPlainCell wanted

-- Where the hulls of a row's circuit over two boxes are modest, every number that comes up as the row's system for the one
-- box is used over the hull of the other is within 2^58.
abbrev pub RowSystemsAreSmall : Type 0
RowSystemsAreSmall =
    (coded : Coded) (root box : Bounds) (g : Goal) → IsCircuit coded.circuit → circuit_size coded.circuit < 2 ^ 29 → IsModest root coded.circuit → IsModest box coded.circuit → SuitsColumns coded.columns g → AreSmall (system_of coded root g).inequalities (hull_of box coded.circuit)
