-- The finished tree of a board as a tree of a certificate.
use Rattle.std.proofs.Common.{◌≡◌, refl, ap, ◌∙◌, arith, ℕ, suc, ◌-◌, ℤ, int_le, int_lt, true, false, cond, List, [], ◌∷◌, length, map}
use Rattle.std.specs.declared.option.Option.{Option}
use Rattle.std.specs.List.{AllByRecursion, count_by, flat_map}
use Rattle.std.proofs.lemmas.Bool.{and_from}
use Rattle.std.proofs.lemmas.List.Concat.{flat_map-cons}
use Rattle.qf_base.specs.Values.{Bounds, interval_at}
use Rattle.qf_base.proofs.Integers.{int_le_yes, int_lt_yes}
use Rattle.qf_lin.specs.declared.inequality.System.{System}
use Rattle.qf_lin.specs.declared.step.Step.{Step}
use Rattle.qf_point.specs.Points.{cheapest, CanCut, lower_half, upper_half}
use Rattle.qf_tree.specs.declared.tree.Node.{Node}
use Rattle.qf_tree.specs.declared.tree.Node.TheVariants as node
use Rattle.qf_tree.specs.Refutations.{Refutes, by_empty, by_tight, by_case, IsRefutation}
use Rattle.qf_tree.specs.Lines.{are_refutations, are_trees}
use Rattle.qf_tree.specs.Certificates.{Placed, placed, cuts_inside}
use Rattle.qf_tree.specs.Sizes.{all_cut, is_worked}
use Rattle.qf_encode.specs.Lives.{BoxIn}
use Rattle.qf_instance.proofs.Boxes.{boxes_halve}
use Rattle.qf_board.specs.Boards.{Place, Split, Refuted, Open, Held, Box, boxed, beats, left_node, tree_node, is_counted}
use Rattle.qf_board.specs.Sound.{Stands}
use Rattle.qf_board.proofs.Lists.{all_append}
use Rattle.qf_board.proofs.BoardLaws.{count_by-cons}
use Rattle.qf_search.proofs.WorkOrder.{placed_node}

-- ---- lists

pub all_mapped : {X Y : Type 0} (P : Y → Type 0) (f : X → Y) (xs : List X) → AllByRecursion (λ (x : X). P (f x)) xs → AllByRecursion P (map f xs)
all_mapped P f [] all = tt
all_mapped P f (x ∷ xs) all = (all.0, all_mapped P f xs all.1)

pub all_flat : {X Y : Type 0} (P : Y → Type 0) (f : X → List Y) (xs : List X) → AllByRecursion (λ (x : X). AllByRecursion P (f x)) xs → AllByRecursion P (flat_map f xs)
all_flat P f [] all = tt
all_flat P f (x ∷ xs) all = rw (flat_map-cons f x xs) (all_append P (f x) (flat_map f xs) all.0 (all_flat P f xs all.1))

-- ---- a refutation is one

one_refutation : {system : System} {bounds : Bounds} {depth : ℕ} {steps rest : List Step} → Refutes system bounds depth steps rest → (n : ℕ) → are_refutations (suc n) steps ≡ are_refutations n rest
one_refutation (by_empty h) n = refl
one_refutation (by_tight h r) n = one_refutation r n
one_refutation (by_case h r q) n = one_refutation r (suc n) ∙ one_refutation q n

pub is_one : (system : System) (bounds : Bounds) (steps : List Step) → IsRefutation system bounds steps → are_refutations 1 steps ≡ true
is_one system bounds steps h = one_refutation h 0

-- ---- what the parts of a tree keep

-- the steps of a refuted leaf are one refutation, and each split cuts its box
abbrev pub IsShaped : Box × Place → Type 0
IsShaped (b, Split param cut row) = CanCut b (param - 1) cut
IsShaped (b, Refuted row steps) = are_refutations 1 steps ≡ true
IsShaped (b, Open) = Unit {0}
IsShaped (b, Held who) = Unit {0}

pub cut_inside : (b : Box) (param : ℕ) (cut : ℤ) → CanCut b (param - 1) cut → cuts_inside b param cut ≡ true
cut_inside b param cut can =
    let r = interval_at b (param - 1) in
    and_from (int_le r.0 cut) (int_lt cut r.1) (int_le_yes r.0 cut can.low) (int_lt_yes cut r.1 can.high)

-- each box lies in the box that they all lie in
pub all_in : (root : Bounds) (places : List Place) (pending : List Box) → Stands places pending → AllByRecursion (λ (b : Box). BoxIn b root) pending → AllByRecursion (λ (x : Box × Place). BoxIn x.0 root) (boxed places pending)
all_in root [] pending h all = tt
all_in root (n ∷ places) [] h all = absurd h
all_in root (Split p c r ∷ places) (b ∷ pending) h all =
    let two = boxes_halve b root p c all.0 (cut_inside b p c h.0) in
    (all.0, all_in root places (lower_half b (p - 1) c ∷ upper_half b (p - 1) c ∷ pending) h.1 (two.0, (two.1, all.1)))
all_in root (Refuted r steps ∷ places) (b ∷ pending) h all = (all.0, all_in root places pending h all.1)
all_in root (Open ∷ places) (b ∷ pending) h all = (all.0, all_in root places pending h all.1)
all_in root (Held who ∷ places) (b ∷ pending) h all = (all.0, all_in root places pending h all.1)

module _ (prices : List ℤ) (best : Option (List ℤ)) where
  abbrev nodes : List (Box × Place) → List Node
  nodes xs = map (tree_node prices best) xs

  -- a left leaf is open or dear
  by_left : (P : Node → Type 0) (b : Box) → P node.Open → P node.Dear → P (left_node prices best b)
  by_left P b opened dear = elim (beats prices best (cheapest prices b)) as (λ t. P (cond {A = Node} t node.Open node.Dear)) [
    | true ↦ opened
    | false ↦ dear
  ]

  left_placed : (b : Box) (pending : List Box) (ns : List Node) → placed (b ∷ pending) (left_node prices best b ∷ ns) ≡ (b, left_node prices best b) ∷ placed pending ns
  left_placed b pending ns = by_left (λ (n : Node). placed (b ∷ pending) (n ∷ ns) ≡ (b, n) ∷ placed pending ns) b refl refl

  -- its nodes have the boxes that they have on the board
  pub placed_is : (places : List Place) (pending : List Box) → Stands places pending → placed pending (nodes (boxed places pending)) ≡ map (placed_node prices best) (boxed places pending)
  placed_is [] [] h = refl
  placed_is [] (b ∷ pending) h = absurd h
  placed_is (n ∷ places) [] h = absurd h
  placed_is (Split p c r ∷ places) (b ∷ pending) h = ap (λ (l : List Placed). (b, node.Split p c r) ∷ l) (placed_is places (lower_half b (p - 1) c ∷ upper_half b (p - 1) c ∷ pending) h.1)
  placed_is (Refuted r steps ∷ places) (b ∷ pending) h = ap (λ (l : List Placed). (b, node.Refuted r steps) ∷ l) (placed_is places pending h)
  placed_is (Open ∷ places) (b ∷ pending) h = left_placed b pending (nodes (boxed places pending)) ∙ ap (λ (l : List Placed). (b, left_node prices best b) ∷ l) (placed_is places pending h)
  placed_is (Held who ∷ places) (b ∷ pending) h = left_placed b pending (nodes (boxed places pending)) ∙ ap (λ (l : List Placed). (b, left_node prices best b) ∷ l) (placed_is places pending h)

  left_tree : (b : Box) (n : ℕ) (ns : List Node) → are_trees n ns ≡ true → are_trees (suc n) (left_node prices best b ∷ ns) ≡ true
  left_tree b n ns h = by_left (λ (m : Node). are_trees (suc n) (m ∷ ns) ≡ true) b h h

  pub trees_are : (places : List Place) (pending : List Box) → Stands places pending → AllByRecursion IsShaped (boxed places pending) → are_trees (length pending) (nodes (boxed places pending)) ≡ true
  trees_are [] [] h all = refl
  trees_are [] (b ∷ pending) h all = absurd h
  trees_are (n ∷ places) [] h all = absurd h
  trees_are (Split p c r ∷ places) (b ∷ pending) h all = trees_are places (lower_half b (p - 1) c ∷ upper_half b (p - 1) c ∷ pending) h.1 all.1
  trees_are (Refuted r steps ∷ places) (b ∷ pending) h all = and_from (are_refutations 1 steps) (are_trees (length pending) (nodes (boxed places pending))) all.0 (trees_are places pending h all.1)
  trees_are (Open ∷ places) (b ∷ pending) h all = left_tree b (length pending) (nodes (boxed places pending)) (trees_are places pending h all.1)
  trees_are (Held who ∷ places) (b ∷ pending) h all = left_tree b (length pending) (nodes (boxed places pending)) (trees_are places pending h all.1)

  left_cut : (b : Box) (ps : List Placed) → all_cut ps ≡ true → all_cut ((b, left_node prices best b) ∷ ps) ≡ true
  left_cut b ps h = by_left (λ (m : Node). all_cut ((b, m) ∷ ps) ≡ true) b h h

  pub cuts_are : (xs : List (Box × Place)) → AllByRecursion IsShaped xs → all_cut (map (placed_node prices best) xs) ≡ true
  cuts_are [] all = refl
  cuts_are ((b, Split p c r) ∷ xs) all = and_from (cuts_inside b p c) (all_cut (map (placed_node prices best) xs)) (cut_inside b p c all.0) (cuts_are xs all.1)
  cuts_are ((b, Refuted r steps) ∷ xs) all = cuts_are xs all.1
  cuts_are ((b, Open) ∷ xs) all = left_cut b (map (placed_node prices best) xs) (cuts_are xs all.1)
  cuts_are ((b, Held who) ∷ xs) all = left_cut b (map (placed_node prices best) xs) (cuts_are xs all.1)

  left_none : (b : Box) (ns : List Node) → count_by is_worked (left_node prices best b ∷ ns) ≡ count_by is_worked ns
  left_none b ns = by_left (λ (m : Node). count_by is_worked (m ∷ ns) ≡ count_by is_worked ns) b (omega (arith, count_by-cons is_worked node.Open ns)) (omega (arith, count_by-cons is_worked node.Dear ns))

  -- it has as many worked boxes as the board
  pub counts_are : (places : List Place) (pending : List Box) → Stands places pending → count_by is_worked (nodes (boxed places pending)) ≡ count_by is_counted places
  counts_are [] [] h = refl
  counts_are [] (b ∷ pending) h = absurd h
  counts_are (n ∷ places) [] h = absurd h
  counts_are (Split p c r ∷ places) (b ∷ pending) h =
      let later = lower_half b (p - 1) c ∷ upper_half b (p - 1) c ∷ pending in
      omega (arith, counts_are places later h.1, count_by-cons is_worked (node.Split p c r) (nodes (boxed places later)), count_by-cons is_counted (Split p c r) places)
  counts_are (Refuted r steps ∷ places) (b ∷ pending) h =
      omega (arith, counts_are places pending h, count_by-cons is_worked (node.Refuted r steps) (nodes (boxed places pending)), count_by-cons is_counted (Refuted r steps) places)
  counts_are (Open ∷ places) (b ∷ pending) h = omega (arith, left_none b (nodes (boxed places pending)), counts_are places pending h, count_by-cons is_counted Open places)
  counts_are (Held who ∷ places) (b ∷ pending) h = omega (arith, left_none b (nodes (boxed places pending)), counts_are places pending h, count_by-cons is_counted (Held who) places)
