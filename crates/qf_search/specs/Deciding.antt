-- What is to become of a box that an explorer holds.
use Rattle.std.specs.Prelude.{◌≡◌, ℕ, suc, ◌-◌, ◌<◌, ℤ, false, true, List}
use Rattle.std.specs.declared.option.Option.TheVariants.{Some}
use Rattle.std.specs.List.{AllByRecursion}
use Rattle.qf_base.specs.declared.names.RowName.{RowName}
use Rattle.qf_base.specs.Values.{Interval, Bounds}
use Rattle.qf_circuit.specs.Circuits.{hull_of}
use Rattle.qf_lin.specs.declared.inequality.Inequality.{Inequality}
use Rattle.qf_lin.specs.declared.step.Step.{Step}
use Rattle.qf_tree.specs.Lines.{StepsFit}
use Rattle.qf_point.specs.Points.{cheapest, CanCut}
use Rattle.qf_goal.specs.Case.{Case, goal_at, misses, first_failing}
use Rattle.qf_slice.specs.RootBox.{IsNeeded}
use Rattle.qf_encode.specs.declared.coded.Coded.{Coded}
use Rattle.qf_encode.specs.Systems.{goal_rows}
use Rattle.qf_instance.specs.Instances.{case_circuit}
use Rattle.qf_board.specs.Boards.{BoardState, Box, Event, Take, Refute, Cut, box_at, best_place, HoldsAt, after, node_count}
use Rattle.qf_search.specs.declared.deciding.Decision.{Decision}
use Rattle.qf_search.specs.declared.deciding.Decision.TheVariants as decision
use Rattle.qf_search.specs.Standing.{RefutesFor}
use Rattle.qf_search.specs.Exploring.{IsNotClosable, Explores, has_wanted}
use Rattle.qf_search.specs.Closing.{is_violated}

-- the hull of the box violates no inequality of the row's goal
pub record IsOpenFor (case : Case) (region : Box) (row : RowName) : Type 0 where
  pub coded : Coded
  pub is : case_circuit case row ≡ Some coded
  pub holds : AllByRecursion (λ (r : Inequality). is_violated (hull_of region coded.circuit) r ≡ false) (goal_rows coded (goal_at case row))

-- the steps refute the box for the row, and each can be written
abbrev pub IsClosing : Case → Box → RowName → List Step → Type 0
IsClosing case region row steps = RefutesFor case region row steps × StepsFit steps

-- .. and the row misses its goal at the point
abbrev pub IsRefuting : Case → Box → List ℤ → RowName → List Step → Type 0
IsRefuting case region point row steps = IsClosing case region row steps × (misses case point row ≡ true)

-- the row leaves the box open, and no complained row closes it
abbrev pub IsLeftOpen : Case → Box → RowName → Type 0
IsLeftOpen case region row = IsOpenFor case region row × IsNotClosable case region

-- what it needs: steps that refute the box for a row that misses its goal at the point, or a cut of the box at a needed
-- parameter where no complained row closes it
abbrev pub IsDecided : Case → Box → List ℤ → Decision → Type 0
IsDecided case region point (decision.Refute row steps) = IsRefuting case region point row steps
IsDecided case region point (decision.Cut param cut) = (0 < param) × (CanCut region (param - 1) cut × (IsNeeded case param × IsNotClosable case region))

-- as an event of an explorer, where this row misses its goal
abbrev pub event_of : ℕ → RowName → Decision → Event
event_of who row (decision.Refute refuted steps) = Refute who refuted steps
event_of who row (decision.Cut param cut) = Cut who param cut row

-- each interval has one value
abbrev pub IsOnePoint : Bounds → Type 0
IsOnePoint region = AllByRecursion (λ (r : Interval). r.0 ≡ r.1) region

-- the open box with the best key was taken, and the row is the first that misses its goal at the box's cheapest point
pub record IsTaken (case : Case) (who : ℕ) (s t : BoardState) (region : Box) (row : RowName) : Type 0 where
  pub place : ℕ
  pub best : best_place s ≡ Some place
  pub box : box_at s place ≡ region
  pub taken : t ≡ after s (Take who)
  pub failing : first_failing case (cheapest case.plan.olds region) ≡ Some row

-- the explorer holds this box
pub record HoldsBox (s : BoardState) (who : ℕ) (region : Box) : Type 0 where
  pub place : ℕ
  pub holds : HoldsAt s who place
  pub box : box_at s place ≡ region

-- what was decided of the box has happened
pub record IsTreated (case : Case) (who : ℕ) (region : Box) (row : RowName) (s t : BoardState) : Type 0 where
  pub decision : Decision
  pub decided : IsDecided case region (cheapest case.plan.olds region) decision
  pub happened : t ≡ after s (event_of who row decision)

-- no node was added, and no open box has a key better than the best found
pub record IsOver (case : Case) (who : ℕ) (s t : BoardState) : Type 0 where
  pub run : Explores case who 0 s t
  pub wanted : has_wanted t ≡ false

-- one node was added
pub record IsWorked (case : Case) (who : ℕ) (s t : BoardState) : Type 0 where
  pub run : Explores case who 1 s t
  pub added : node_count t ≡ suc (node_count s)
