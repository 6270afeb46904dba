-- What a walk over nodes finds.
use Rattle.std.specs.Prelude.{◌≡◌, ℕ, ◌+◌, min, Bool, true, false, cond, ◌||◌, List, [], ◌∷◌, ◌++◌, length}
use Rattle.std.specs.declared.option.Option.{Option}
use Rattle.std.specs.declared.option.Option.TheVariants.{Some, None}
use Rattle.std.specs.List.{list_any, flat_map}
use Rattle.qf_base.specs.Values.{Bounds}
use Rattle.qf_point.specs.Points.{cost, cheapest}
use Rattle.qf_tree.specs.declared.tree.Node.{Node}
use Rattle.qf_tree.specs.declared.cert.Answer.{Answer}
use Rattle.qf_tree.specs.declared.cert.Answer.TheVariants.{Repair, Nothing, Budget, Best}
use Rattle.qf_tree.specs.Lines.{node_lines}
use Rattle.qf_tree.specs.Certificates.{placed, fault_from, open_costs, least_of, is_open, node_fault, halves, stated_costs}
use Rattle.qf_check.specs.declared.verdict.CheckFault.{CheckFault}
use Rattle.qf_check.specs.declared.verdict.CheckFault.TheVariants.{Rejected, NoMemory}
use Rattle.qf_check.specs.declared.grounds.Grounds.{Grounds}
use Rattle.qf_check.specs.declared.walk.Walk.{Walk}
use Rattle.qf_check.specs.Splits.{boxes_of, boxes_to_come, LieIn}
use Rattle.qf_instance.specs.RowsMade.{AreMade}
use Rattle.qf_check.specs.Grounding.{instance}

abbrev pub lowest : Option ℕ → ℕ → ℕ
lowest None cost = cost
lowest (Some least) cost = min least cost

abbrev pub as_list : Option ℕ → List ℕ
as_list None = []
as_list (Some n) = n ∷ []

-- the first fault of the nodes, the least cost of an open box, whether a box is open, and the line after them all
pub record Told : Type 0 where
  pub fault : Option ℕ
  pub least : ℕ
  pub any_open : Bool
  pub end : ℕ

-- what is told where these nodes are still to come
abbrev pub told : Grounds → Walk → List Node → Told
told g w nodes = record {
  fault = fault_from (instance g) g.answer.now w.line (placed (boxes_of w.boxes) nodes);
  least = least_of (as_list w.least ++ open_costs (instance g) (placed (boxes_of w.boxes) nodes));
  any_open = w.any_open || list_any is_open nodes;
  end = w.line + length (flat_map node_lines nodes);
}

-- the boxes lie in the root box, what was made is right, and there is room for a point
pub record IsSoundWalk (g : Grounds) (w : Walk) : Type 0 where
  pub boxes : LieIn g.root w.boxes
  pub made : AreMade g.problem.now g.root w.made
  pub room : length w.room ≡ length g.root

-- the node at hand kept its rule, and the walk went on to the next box
pub record IsVisited (g : Grounds) (old new : Walk) (node : Node) : Type 0 where
  pub right : node_fault (instance g) g.answer.now (old.boxes.region, node) ≡ None
  pub boxes : boxes_of new.boxes ≡ halves old.boxes.region node ++ boxes_to_come old.boxes.region old.boxes.frames
  pub least : new.least ≡ cond (is_open node) (Some (lowest old.least (cost (instance g).olds (cheapest (instance g).olds old.boxes.region)))) old.least
  pub line : new.line ≡ old.line
  pub any_open : new.any_open ≡ old.any_open
  pub sound : IsSoundWalk g new

-- .. or no box was at hand
abbrev pub IsTakenWhere : Bool → Grounds → Walk → Walk → Node → Type 0
IsTakenWhere true g old new node = new ≡ old
IsTakenWhere false g old new node = IsVisited g old new node

abbrev pub IsTaken : Grounds → Walk → Walk → Node → Type 0
IsTaken g old new node = IsTakenWhere old.boxes.is_done g old new node

-- a rejection is of the fault that was found
abbrev pub IsRejectedBy : Option ℕ → CheckFault → Type 0
IsRejectedBy found (Rejected line) = found ≡ Some line
IsRejectedBy found NoMemory = Unit {0}

-- the walk is at the box, with nothing behind it
pub record Begins (g : Grounds) (region : Bounds) (w : Walk) : Type 0 where
  pub boxes : boxes_of w.boxes ≡ region ∷ []
  pub line : w.line ≡ 3
  pub least : as_list w.least ≡ stated_costs (instance g) g.answer.now
  pub any_open : w.any_open ≡ false
  pub sound : IsSoundWalk g w

-- whether the answer suits whether a box is open
abbrev pub ends_right : Answer → Bool → Bool
ends_right (Repair p) any_open = true
ends_right Nothing any_open = true
ends_right Budget any_open = any_open
ends_right (Best p) any_open = any_open
