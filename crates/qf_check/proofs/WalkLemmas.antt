-- What is told of the nodes that are still to come stays the same as a node is taken.
use Rattle.std.proofs.Common.{◌≡◌, ◌∙◌, ap, sym, refl, ℕ, suc, ◌+◌, ◌<◌, drop, get_or, drop-cons, add-one, Bool, true, false, cond, ◌||◌, List, [], ◌∷◌, ◌++◌, length, Option, Some, None, arith, length-append}
use Rattle.std.specs.List.{list_any, flat_map}
use Rattle.qf_base.specs.Values.{Bounds}
use Rattle.qf_point.specs.Points.{cost, cheapest}
use Rattle.qf_tree.specs.declared.tree.Node.{Node}
use Rattle.qf_tree.specs.declared.tree.Node.TheVariants.{Split, Refuted, Dear, Open}
use Rattle.qf_tree.specs.Lines.{node_lines}
use Rattle.qf_tree.specs.Certificates.{Instance, Placed, placed, halves, line_count, open_costs, least_of, is_open}
use Rattle.qf_check.specs.declared.grounds.Grounds.{Grounds}
use Rattle.qf_check.specs.declared.walk.Walk.{Walk}
use Rattle.qf_check.specs.declared.boxes.Boxes.{Boxes}
use Rattle.qf_check.specs.Splits.{boxes_of, boxes_to_come}
use Rattle.qf_check.specs.Grounding.{instance}
use Rattle.qf_check.specs.Walking.{lowest, as_list, Told, told, IsVisited, IsTakenWhere, IsTaken}

-- the nodes from a place on
pub drop_at : (nodes : List Node) (i : ℕ) (node : Node) → i < length nodes → node ≡ get_or nodes i node → drop i nodes ≡ node ∷ drop (i + 1) nodes
drop_at nodes i node h e = drop-cons nodes i node h ∙ rw add-one (ap (λ x. x ∷ drop (suc i) nodes) (sym e))

-- ---- what is told

told_by : (a b : Told) → a.fault ≡ b.fault → a.least ≡ b.least → a.any_open ≡ b.any_open → a.end ≡ b.end → a ≡ b
told_by a b f l o e =
    ap (λ (x : Option ℕ). record { fault = x; least = a.least; any_open = a.any_open; end = a.end }) f
    ∙ ap (λ (x : ℕ). record { fault = b.fault; least = x; any_open = a.any_open; end = a.end }) l
    ∙ ap (λ (x : Bool). record { fault = b.fault; least = b.least; any_open = x; end = a.end }) o
    ∙ ap (λ (x : ℕ). record { fault = b.fault; least = b.least; any_open = b.any_open; end = x }) e

pub placed-none : (nodes : List Node) → placed [] nodes ≡ []
placed-none [] = refl
placed-none (node ∷ nodes) = refl

or_later : (a b c : Bool) → ((a || b) || c) ≡ (a || (b || c))
or_later true b c = refl
or_later false b c = refl

lines-cons : (node : Node) (nodes : List Node) → length (flat_map node_lines (node ∷ nodes)) ≡ line_count node + length (flat_map node_lines nodes)
lines-cons node nodes = length-append (node_lines node) (flat_map node_lines nodes)

lowest_first : (least : Option ℕ) (c : ℕ) (costs : List ℕ) → least_of (lowest least c ∷ costs) ≡ least_of (as_list least ++ c ∷ costs)
lowest_first None c costs = refl
lowest_first (Some n) c costs = refl

-- the cost of the node's box is among those of the open boxes where the node is open
costs_with : (inst : Instance) (least : Option ℕ) (region : Bounds) (node : Node) (leaves : List Placed) → least_of (as_list (cond (is_open node) (Some (lowest least (cost inst.olds (cheapest inst.olds region)))) least) ++ open_costs inst leaves) ≡ least_of (as_list least ++ open_costs inst ((region, node) ∷ leaves))
costs_with inst least region (Split param cut row) leaves = refl
costs_with inst least region (Refuted row steps) leaves = refl
costs_with inst least region Dear leaves = refl
costs_with inst least region Open leaves = lowest_first least (cost inst.olds (cheapest inst.olds region)) (open_costs inst leaves)

module _ (g : Grounds) (old new : Walk) (node : Node) (nodes : List Node) (line : new.line ≡ old.line + line_count node) (any_open : new.any_open ≡ (old.any_open || is_open node)) where
  end_same : new.line + length (flat_map node_lines nodes) ≡ old.line + length (flat_map node_lines (node ∷ nodes))
  end_same = omega (arith, line, lines-cons node nodes)

  open_same : (new.any_open || list_any is_open nodes) ≡ (old.any_open || list_any is_open (node ∷ nodes))
  open_same = ap (λ b. b || list_any is_open nodes) any_open ∙ or_later old.any_open (is_open node) (list_any is_open nodes)

  -- no box is left
  pub told_past : old.boxes.is_done ≡ true → new.boxes ≡ old.boxes → new.least ≡ old.least → told g new nodes ≡ told g old (node ∷ nodes)
  told_past done boxes least =
      told_by (told g new nodes) (told g old (node ∷ nodes)) (rw (boxes, done, placed-none nodes) refl) (rw (boxes, done, placed-none nodes, least) refl) open_same end_same

  -- the node's box was at hand
  pub told_visited : (middle : Walk) → old.boxes.is_done ≡ false → IsVisited g old middle node → new.boxes ≡ middle.boxes → new.least ≡ middle.least → told g new nodes ≡ told g old (node ∷ nodes)
  told_visited middle there v boxes least =
      let leaves = placed (halves old.boxes.region node ++ boxes_to_come old.boxes.region old.boxes.frames) nodes in
      let now : placed (boxes_of new.boxes) nodes ≡ leaves = ap (λ (b : Boxes). placed (boxes_of b) nodes) boxes ∙ ap (λ bs. placed bs nodes) v.boxes in
      let before : placed (boxes_of old.boxes) (node ∷ nodes) ≡ (old.boxes.region, node) ∷ leaves = rw there refl in
      told_by (told g new nodes) (told g old (node ∷ nodes))
      (rw (now, before, v.right, line) refl)
      (rw (now, before, least, v.least) (costs_with (instance g) old.least old.boxes.region node leaves))
      open_same end_same

-- ---- one node

module _ (g : Grounds) (old middle new : Walk) (node : Node) (boxes : new.boxes ≡ middle.boxes) (least : new.least ≡ middle.least) where
  taken_line : (flag : Bool) → IsTakenWhere flag g old middle node → (middle.line ≡ old.line) × (middle.any_open ≡ old.any_open)
  taken_line true t = (ap (λ (w : Walk). w.line) t, ap (λ (w : Walk). w.any_open) t)
  taken_line false t = (t.line, t.any_open)

  told_where : (flag : Bool) → old.boxes.is_done ≡ flag → IsTakenWhere flag g old middle node → new.line ≡ old.line + line_count node → new.any_open ≡ (old.any_open || is_open node) → (nodes : List Node) → told g new nodes ≡ told g old (node ∷ nodes)
  told_where true e t line any_open nodes =
      told_past g old new node nodes line any_open e (boxes ∙ ap (λ (w : Walk). w.boxes) t) (least ∙ ap (λ (w : Walk). w.least) t)
  told_where false e t line any_open nodes = told_visited g old new node nodes line any_open middle e t boxes least

  pub told_taken : IsTaken g old middle node → new.line ≡ middle.line + line_count node → new.any_open ≡ (middle.any_open || is_open node) → (nodes : List Node) → told g new nodes ≡ told g old (node ∷ nodes)
  told_taken t line any_open =
      let same = taken_line old.boxes.is_done t in
      told_where old.boxes.is_done refl t (line ∙ ap (λ n. n + line_count node) same.0) (any_open ∙ ap (λ b. b || is_open node) same.1)
