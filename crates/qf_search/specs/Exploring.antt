-- What one explorer does to a board, and how its run ends.
use Rattle.std.specs.Prelude.{◌≡◌, ◌≢◌, ◌⊎◌, ℕ, ◌+◌, ◌≤◌, ℤ, Bool, true, false, List, [], ◌∷◌, IsFalse}
use Rattle.std.specs.declared.option.Option.TheVariants.{Some}
use Rattle.std.specs.List.{count_by, list_any}
use Rattle.qf_base.specs.declared.names.RowName.{RowName}
use Rattle.qf_point.specs.Points.{cheapest}
use Rattle.qf_goal.specs.Case.{Case, Mends, is_complained, misses, first_failing}
use Rattle.qf_slice.specs.RootBox.{IsNeeded}
use Rattle.qf_tree.specs.Certificates.{Instance}
use Rattle.qf_tree.specs.Lean.{is_closable_box}
use Rattle.qf_tree.specs.Lines.{StepsFit}
use Rattle.qf_instance.specs.Instances.{IsInstance}
use Rattle.qf_instance.specs.Leanness.{aims_of}
use Rattle.qf_board.specs.Boards.{BoardState, Place, Split, Refuted, Open, Held, Box, boxes, box_at, is_wanted, best_box, held_box, Holds, HoldsAt, HoldsNone, Event, Take, Refute, Cut, Found, GiveBack, after, after_all, node_count}
use Rattle.qf_board.specs.Allowed.{who_of}
use Rattle.qf_search.specs.Standing.{AreAllowedFor}

-- ---- events

-- all are of one explorer
abbrev pub AreBy : ℕ → List Event → Type 0
AreBy e [] = Unit {0}
AreBy e (event ∷ events) = (who_of event ≡ e) × AreBy e events

-- a box is split or refuted
abbrev pub adds_node : Event → Bool
adds_node (Take e) = false
adds_node (Refute e row steps) = true
adds_node (Cut e param cut row) = true
adds_node (Found e) = false
adds_node (GiveBack e) = false

-- a split of the tree names the row
abbrev pub IsNamed : RowName → List Place → Type 0
IsNamed row [] = ⊥
IsNamed row (Split param cut named ∷ places) = (named ≡ row) ⊎ IsNamed row places
IsNamed row (Refuted other steps ∷ places) = IsNamed row places
IsNamed row (Open ∷ places) = IsNamed row places
IsNamed row (Held who ∷ places) = IsNamed row places

-- the row misses its goal at the point, or a complaint is about it, or a split of the board names it
abbrev pub IsDue : Case → BoardState → List ℤ → RowName → Type 0
IsDue case s point row = (misses case point row ≡ true) ⊎ ((is_complained case row ≡ true) ⊎ IsNamed row s.places)

-- no complained row closes the box
pub record IsNotClosable (case : Case) (b : Box) : Type 0 where
  pub inst : Instance
  pub is_instance : IsInstance case inst
  pub none : IsFalse (is_closable_box inst (aims_of case) b)

-- A box is cut at a needed parameter, for the first row that misses its goal at the box's cheapest point, and only where
-- no complained row closes it. It is refuted for a row that is due, by steps that each can be written.
abbrev pub IsLean : Case → BoardState → Event → Type 0
IsLean case s (Take e) = Unit {0}
IsLean case s (Refute e row steps) = (k : ℕ) × HoldsAt s e k × IsDue case s (cheapest s.prices (box_at s k)) row × StepsFit steps
IsLean case s (Cut e param cut row) = (k : ℕ) × HoldsAt s e k × IsNeeded case param × (first_failing case (cheapest s.prices (box_at s k)) ≡ Some row) × IsNotClosable case (box_at s k)
IsLean case s (Found e) = Unit {0}
IsLean case s (GiveBack e) = Unit {0}

abbrev pub AreLean : Case → BoardState → List Event → Type 0
AreLean case s [] = Unit {0}
AreLean case s (event ∷ events) = IsLean case s event × AreLean case (after s event) events

-- Events of the explorer alone, each with what it needs for the problem, lead from the one board to the other. They split
-- or refute at most so many boxes. The explorer holds none in the end, and the others what they held.
pub record Explores (case : Case) (who most : ℕ) (s t : BoardState) : Type 0 where
  pub events : List Event
  pub own : AreBy who events
  pub allowed : AreAllowedFor case s events
  pub lean : AreLean case s events
  pub few : count_by adds_node events ≤ most
  pub leads : after_all s events ≡ t
  pub added : node_count t ≡ node_count s + count_by adds_node events
  pub free : HoldsNone t who
  pub others : (other : ℕ) → other ≢ who → held_box t other ≡ held_box s other

-- ---- how a run ends

-- an open box has a key better than the best found
abbrev pub has_wanted : BoardState → Bool
has_wanted s = list_any (is_wanted s.prices s.best) (boxes s)

-- no open box has a key better than the best found, and another explorer holds a box
pub record IsIdle (who : ℕ) (s : BoardState) : Type 0 where
  pub wanted : has_wanted s ≡ false
  pub other : ℕ
  pub apart : other ≢ who
  pub holds : Holds s other

-- an open box with a key better than the best found is left, and the cheapest point of the open box with the best key does
-- not repair
pub record IsLeft (case : Case) (s : BoardState) : Type 0 where
  pub box : Box
  pub best : best_box s ≡ Some box
  pub fails : Mends case (cheapest s.prices box) → ⊥

-- so many nodes were added, and work is left
pub record IsSpent (case : Case) (most : ℕ) (s t : BoardState) : Type 0 where
  pub added : node_count t ≡ node_count s + most
  pub left : IsLeft case t
