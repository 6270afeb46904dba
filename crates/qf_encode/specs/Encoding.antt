-- A row's system is satisfied exactly by the row's own values, and only where the row meets its goal.
use Rattle.std.specs.Prelude.{◌≡◌, ℕ, ◌<◌, ◌^◌, ◌↔◌, List, [], ◌∷◌, length, ℤ, IsTrue}
use Rattle.std.specs.declared.option.Option.{Option}
use Rattle.std.specs.declared.option.Option.TheVariants.{Some, None}
use Rattle.qf_base.specs.declared.names.RowName.{RowName}
use Rattle.qf_base.specs.Values.{Bounds, IsWithin}
use Rattle.qf_lin.specs.Inequalities.{AllHold}
use Rattle.qf_circuit.specs.Circuits.{eval, hull_of, IsCircuit}
use Rattle.qf_rows.specs.Encoding.{GivesParams}
use Rattle.qf_ir.specs.declared.cell.Cell.{Cell}
use Rattle.qf_ir.specs.declared.cell.Cell.TheVariants.{Int, Text}
use Rattle.qf_ir.specs.declared.cell.Goal.{Goal}
use Rattle.qf_ir.specs.declared.cell.Goal.TheVariants as goal
use Rattle.qf_ir.specs.declared.ast.Statement.{Statement}
use Rattle.qf_ir.specs.Value.{Cells}
use Rattle.qf_ir.specs.Repairs.{meets}
use Rattle.qf_ir.specs.Life.{Moment, ending}
use Rattle.qf_encode.specs.declared.coded.Coded.{Coded}
use Rattle.qf_encode.specs.Coding.{circuit_of}
use Rattle.qf_encode.specs.Lives.{RowsIn, StatementsIn, CodesMoment}
use Rattle.qf_encode.specs.Systems.{system_of}

-- ---- a stated cell is of its column's kind

abbrev pub SameKind : Cell → Option Cell → Type 0
SameKind cell None = Unit {0}
SameKind (Int a) (Some (Int b)) = Unit {0}
SameKind (Text a) (Some (Text b)) = Unit {0}
SameKind (Int a) (Some (Text b)) = ⊥
SameKind (Text a) (Some (Int b)) = ⊥

abbrev pub SameKinds : Cells → List (Option Cell) → Type 0
SameKinds [] [] = Unit {0}
SameKinds (c ∷ cells) (w ∷ wanted) = SameKind c w × SameKinds cells wanted
SameKinds [] (w ∷ wanted) = ⊥
SameKinds (c ∷ cells) [] = ⊥

abbrev pub GoalFits : Cells → Goal → Type 0
GoalFits cells goal.Gone = Unit {0}
GoalFits cells (goal.There wanted) = SameKinds cells wanted

-- ---- the laws

abbrev pub MakesCircuit : Option Coded → Type 0
MakesCircuit None = Unit {0}
MakesCircuit (Some c) = length c.circuit < 2 ^ 32 → IsCircuit c.circuit

-- the definitions of a row, of the table or inserted, are a circuit, unless there are too many
abbrev pub RowsHaveCircuits : Type 0
RowsHaveCircuits =
    (width : ℕ) (table : List Cells) (statements : List Statement) (name : RowName) → RowsIn width table → StatementsIn width statements → MakesCircuit (circuit_of width table statements name)

-- Take a point of the root box, at which a circuit ends with this moment of its row, and the values within the root hull
-- that have the point's parameters. Those that satisfy the row's system are the row's own values alone, where the row
-- meets its goal at the point, and none otherwise.
abbrev pub RowsAreEncoded : Type 0
RowsAreEncoded =
    (c : Coded) (m : Moment) (g : Goal) (root : Bounds) (point values : List ℤ) → CodesMoment point c m → IsCircuit c.circuit → IsWithin point root → IsWithin values (hull_of root c.circuit) → GivesParams point values c.circuit → GoalFits m.cells g → AllHold (system_of c root g).inequalities values ↔ ((values ≡ eval point c.circuit) × IsTrue (meets (ending m) g))
