-- The size of a tree.
use Rattle.std.specs.Prelude.{◌≡◌, ℕ, ◌+◌, ◌*◌, ◌≤◌, Bool, true, false, ◌&&◌, List, [], ◌∷◌, count_by, IsTrue}
use Rattle.std.specs.List.{list_any}
use Rattle.qf_base.specs.Values.{Bounds}
use Rattle.qf_lin.specs.Inequalities.{is_empty}
use Rattle.qf_point.specs.Points.{point_count}
use Rattle.qf_tree.specs.declared.tree.Node.{Node}
use Rattle.qf_tree.specs.declared.tree.Node.TheVariants.{Split, Refuted, Dear, Open}
use Rattle.qf_tree.specs.Lines.{are_trees}
use Rattle.qf_tree.specs.Certificates.{Placed, placed, cuts_inside, is_open}

abbrev pub is_leaf : Node → Bool
is_leaf (Split param cut row) = false
is_leaf (Refuted row steps) = true
is_leaf Dear = true
is_leaf Open = true

-- the halves of each split are its box in two
abbrev pub cuts_its_box : Placed → Bool
cuts_its_box (region, Split param cut row) = cuts_inside region param cut
cuts_its_box (region, Refuted row steps) = true
cuts_its_box (region, Dear) = true
cuts_its_box (region, Open) = true

abbrev pub all_cut : List Placed → Bool
all_cut [] = true
all_cut (leaf ∷ leaves) = cuts_its_box leaf && all_cut leaves

-- a box that was split or refuted
abbrev pub is_worked : Node → Bool
is_worked (Split param cut row) = true
is_worked (Refuted row steps) = true
is_worked Dear = false
is_worked Open = false

-- the number of boxes that were split or refuted
abbrev pub node_count : List Node → ℕ
node_count nodes = count_by is_worked nodes

-- a tree over a box has no more leaves than the box has points, and so fewer than twice as many worked boxes
pub record IsSmallTree (root : Bounds) (nodes : List Node) : Type 0 where
  pub leaves : count_by is_leaf nodes ≤ point_count root
  pub worked : node_count nodes + 1 ≤ 2 * point_count root
  pub worked_open : IsTrue (list_any is_open nodes) → node_count nodes + 2 ≤ 2 * point_count root

abbrev pub TreesAreSmall : Type 0
TreesAreSmall =
    (root : Bounds) (nodes : List Node) → IsTrue (are_trees 1 nodes) → IsTrue (all_cut (placed (root ∷ []) nodes)) → is_empty root ≡ false → IsSmallTree root nodes
