-- Nodes by number, each with the number of the node that follows it in preorder.
use Rattle.std.specs.Prelude.{◌≡◌, ◌≢◌, ℕ, suc, zero, ◌<◌, List, [], ◌∷◌, map, length, slice_index_or}
use Rattle.std.specs.declared.option.Option.{Option}
use Rattle.std.specs.declared.option.Option.TheVariants.{Some, None}
use Rattle.std.specs.List.{AllByRecursion}
use Rattle.qf_board.specs.declared.nodes.BoxNode.{BoxNode}
use Rattle.qf_board.specs.declared.nodes.Kind.{Kind}
use Rattle.qf_board.specs.declared.nodes.Kind.TheVariants as kind
use Rattle.qf_board.specs.declared.nodes.Link.{Link}
use Rattle.qf_board.specs.Boards.{Place, Split, Refuted, Open, Held, Box}

-- a node with its number
abbrev pub Numbered : Type 0
Numbered = ℕ × BoxNode

abbrev pub place_of_kind : Kind → Place
place_of_kind (kind.Split param cut row) = Split param cut row
place_of_kind (kind.Refuted row steps) = Refuted row steps
place_of_kind kind.Open = Open
place_of_kind (kind.Held who) = Held who

abbrev pub place_of : Numbered → Place
place_of x = place_of_kind x.1.kind

abbrev pub box_of : Numbered → Box
box_of x = x.1.region

abbrev pub pair_of : Numbered → Box × Place
pair_of x = (box_of x, place_of x)

abbrev pub nowhere : Link
nowhere = record { node = record { region = []; kind = kind.Open }; next = None }

abbrev pub link_at : List Link → ℕ → Link
link_at links i = slice_index_or links i nowhere

-- so many numbers at most, from one on
abbrev pub follow : List Link → ℕ → Option ℕ → List ℕ
follow links zero at = []
follow links (suc more) None = []
follow links (suc more) (Some i) = i ∷ follow links more (link_at links i).next

-- the numbers in preorder: that of the root is 0
abbrev pub chain : List Link → List ℕ
chain links = follow links (length links) (Some 0)

abbrev pub with_node : List Link → ℕ → Numbered
with_node links i = (i, (link_at links i).node)

-- the nodes in preorder
abbrev pub numbered : List Link → List Numbered
numbered links = map (with_node links) (chain links)

-- the numbers are those that follow each other, to the end
abbrev pub IsChain : List Link → Option ℕ → List ℕ → Type 0
IsChain links None [] = Unit {0}
IsChain links None (j ∷ order) = ⊥
IsChain links (Some i) [] = ⊥
IsChain links (Some i) (j ∷ order) = (j ≡ i) × IsChain links (link_at links i).next order

-- no number twice
abbrev pub Once : List ℕ → Type 0
Once [] = Unit {0}
Once (i ∷ order) = AllByRecursion (λ j. j ≢ i) order × Once order

pub record IsLinked (links : List Link) : Type 0 where
  pub chained : IsChain links (Some 0) (chain links)
  pub once : Once (chain links)
  pub below : AllByRecursion (λ i. i < length links) (chain links)
  pub many : length (chain links) ≡ length links
