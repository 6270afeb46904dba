-- What a board keeps: the nodes of its tree by number, each with its box and the number of the node that follows it in
-- preorder; the number that each explorer holds; and the open and held leaves in the order of their keys.
use Rattle.std.specs.Prelude.{◌≡◌, ℕ, ℤ, Bool, true, List, [], ◌∷◌, map, length, slice_index_or, nat_eq, ◌⊎◌, ◌<◌, if◌then◌else◌}
use Rattle.std.specs.declared.option.Option.{Option}
use Rattle.std.specs.declared.option.Option.TheVariants.{Some, None}
use Rattle.std.specs.Option.{option_map}
use Rattle.std.specs.List.{AllByRecursion, find, list_any, count_by}
use Rattle.std.specs.Ordering.{nat_cmp, int_cmp, ordering_then}
use Rattle.std.specs.declared.cmp.Ordering.{Ordering}
use Rattle.std.specs.Cmp.Lexicographic.{slice_cmp}
use Rattle.qf_point.specs.Points.{Price, cost, cheapest}
use Rattle.qf_point.specs.Bests.{beats}
use Rattle.qf_board.specs.declared.nodes.Kind.{Kind}
use Rattle.qf_board.specs.declared.nodes.Link.{Link}
use Rattle.qf_board.specs.declared.keys.Key.{Key}
use Rattle.qf_board.specs.declared.board.Board.TheInside.{Inside}
use Rattle.qf_board.specs.Boards.{BoardState, Box, boxes, is_open, is_held, is_held_by, node_count}
use Rattle.qf_board.specs.Sound.{IsSound}
use Rattle.qf_board.specs.Allowed.{is_left}
use Rattle.qf_board.specs.Numbered.{Numbered, with_node, numbered, place_of, box_of, pair_of, IsLinked}

abbrev pub state_of : Inside → BoardState
state_of b = record { root = b.root; prices = b.olds; explorers = length b.held.items; places = map place_of (numbered b.links.items); best = b.best.best }

-- the key of a leaf: the cost of the cheapest point of its box, that point, and the leaf's number
pub record IsKeyOf (prices : List Price) (x : Numbered) (key : Key) : Type 0 where
  pub leaf : key.leaf ≡ x.0
  pub left : is_left (place_of x) ≡ true
  pub values : key.values.items ≡ cheapest prices (box_of x)
  pub cost : key.cost ≡ cost prices (cheapest prices (box_of x))

-- the key of a box under a leaf's number
pub record IsKeyFor (prices : List Price) (region : Box) (number : ℕ) (key : Key) : Type 0 where
  pub leaf : key.leaf ≡ number
  pub values : key.values.items ≡ cheapest prices region
  pub cost : key.cost ≡ cost prices (cheapest prices region)

-- the keys are the one of the box under the number 0
pub record IsOneKey (prices : List Price) (region : Box) (keys : List Key) : Type 0 where
  pub key : Key
  pub only : keys ≡ key ∷ []
  pub is : IsKeyFor prices region 0 key

-- one of the nodes has the key
abbrev pub IsListed : List Price → Key → List Numbered → Type 0
IsListed prices key [] = ⊥
IsListed prices key (x ∷ xs) = (IsKeyOf prices x key) ⊎ IsListed prices key xs

abbrev pub has_key : List Key → ℕ → Bool
has_key keys leaf = list_any (λ key. nat_eq key.leaf leaf) keys

-- the number that an explorer holds
abbrev pub held_number : List (Option ℕ) → ℕ → Option ℕ
held_number held who = slice_index_or held who None

abbrev pub first_held : ℕ → List Numbered → Option ℕ
first_held who xs = option_map (λ (x : Numbered). x.0) (find (λ (x : Numbered). is_held_by who (place_of x)) xs)

pub record IsKept (b : Inside) : Type 0 where
  pub sound : IsSound (state_of b)
  pub linked : IsLinked b.links.items
  pub boxes : boxes (state_of b) ≡ map pair_of (numbered b.links.items)
  pub held : (who : ℕ) → held_number b.held.items who ≡ first_held who (numbered b.links.items)
  pub listed : AllByRecursion (λ key. IsListed b.olds key (numbered b.links.items)) b.left.keys
  pub left : AllByRecursion (λ (x : Numbered). is_left (place_of x) ≡ true → has_key b.left.keys x.0 ≡ true) (numbered b.links.items)
  pub counted : b.counted ≡ node_count (state_of b)
  pub holding : b.holding ≡ count_by is_held (state_of b).places
  pub best : b.best.params ≡ length b.olds
  pub room : length b.room ≡ length b.olds

-- ---- what the parts of a call do

abbrev pub key_cmp : Key → Key → Ordering
key_cmp a b = ordering_then (nat_cmp a.cost b.cost) (ordering_then (slice_cmp int_cmp a.values.items b.values.items) (nat_cmp a.leaf b.leaf))

-- the link with this kind of node
abbrev pub with_kind : Link → Kind → Link
with_kind link kind = record link { node = record link.node { kind = kind } }

abbrev pub is_open_at : List Link → ℕ → Bool
is_open_at links i = is_open (place_of (with_node links i))

-- the key's leaf is one of the nodes, and its cost is that of its point
abbrev pub IsReal : List Price → List Link → Key → Type 0
IsReal prices links key = (key.leaf < length links) × (key.cost ≡ cost prices key.values.items)

abbrev pub wanted_number : List Price → Option (List ℤ) → Option Key → Option ℕ
wanted_number prices best None = None
wanted_number prices best (Some key) = if beats prices best key.values.items then Some key.leaf else None

-- the number of the first open leaf in the order of the keys, if its point is better than the best found
abbrev pub best_number : List Price → Option (List ℤ) → List Link → List Key → Option ℕ
best_number prices best links keys = wanted_number prices best (find (λ key. is_open_at links key.leaf) keys)
