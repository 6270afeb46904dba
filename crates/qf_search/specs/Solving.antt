-- What a search answers over a region, and what it promises of its tree.
use Rattle.std.specs.Prelude.{◌≡◌, ℕ, ◌+◌, ◌*◌, ◌≤◌, ℤ, false, List, [], ◌∷◌, ◌++◌, if◌then◌else◌, IsTrue, All, Contains}
use Rattle.std.specs.List.{flat_map}
use Rattle.qf_base.specs.Values.{Bounds}
use Rattle.qf_point.specs.Points.{better, cheapest, point_count}
use Rattle.qf_point.specs.Least.{Least, Nothing as NoneOf}
use Rattle.qf_goal.specs.Case.{Case, Mends}
use Rattle.qf_tree.specs.declared.tree.Node.TheVariants as node
use Rattle.qf_tree.specs.declared.tree.Tree.{Tree}
use Rattle.qf_tree.specs.declared.cert.Answer.{Answer}
use Rattle.qf_tree.specs.declared.cert.Answer.TheVariants as answer
use Rattle.qf_tree.specs.declared.cert.Cert.{Cert}
use Rattle.qf_tree.specs.Certificates.{Placed, placed, is_open, Instance, at_least}
use Rattle.qf_tree.specs.Sizes.{node_count}
use Rattle.qf_slice.specs.RootBox.{IsRootBox}
use Rattle.qf_encode.specs.Lives.{BoxIn}
use Rattle.qf_instance.specs.Instances.{IsInstance}
use Rattle.qf_instance.specs.Leanness.{IsValidFor, IsLeanFor}
use Rattle.qf_board.specs.Boards.{Event, Take, Refute, Cut, Found as Finds, start, after_all, tree_of}
use Rattle.qf_search.specs.declared.solving.Found.{Found}
use Rattle.qf_search.specs.declared.solving.Found.TheVariants as found

-- the box lies in the problem's root box, and none of its intervals is empty
abbrev pub IsInRootBox : Case → Bounds → Type 0
IsInRootBox case region = (root : Bounds) → IsRootBox case root → BoxIn region root

-- ---- the certificate of an answer

abbrev pub tree_in : Found → Tree
tree_in (found.Repair p tree) = tree
tree_in (found.Nothing tree) = tree
tree_in (found.Budget tree least) = tree

abbrev pub answer_in : Found → Answer
answer_in (found.Repair p tree) = answer.Repair p
answer_in (found.Nothing tree) = answer.Nothing
answer_in (found.Budget tree least) = answer.Budget

abbrev pub cert_of : Found → Cert
cert_of f = record { answer = answer_in f; tree = tree_in f }

-- ---- the events that a certificate fixes

-- put in before the boxes whose keys are no better
abbrev pub put_in_order : List ℤ → Placed → List Placed → List Placed
put_in_order prices one [] = one ∷ []
put_in_order prices one (other ∷ others) =
    if better prices (cheapest prices other.0) (cheapest prices one.0) then other ∷ put_in_order prices one others else one ∷ other ∷ others

-- in the order of the keys; of equal keys the one that came first, which is the outer box
abbrev pub in_order : List ℤ → List Placed → List Placed
in_order prices [] = []
in_order prices (one ∷ others) = put_in_order prices one (in_order prices others)

-- a box is taken and split or refuted
abbrev pub work_on : Placed → List Event
work_on (region, node.Split param cut row) = Take 0 ∷ Cut 0 param cut row ∷ []
work_on (region, node.Refuted row steps) = Take 0 ∷ Refute 0 row steps ∷ []
work_on (region, node.Dear) = []
work_on (region, node.Open) = []

-- and under a repair the last box is taken and its point found
abbrev pub last_events : Answer → List Event
last_events (answer.Repair p) = Take 0 ∷ Finds 0 ∷ []
last_events answer.Nothing = []
last_events answer.Budget = []
last_events (answer.Best p) = []

abbrev pub events_of : List ℤ → Bounds → Cert → List Event
events_of prices region cert = flat_map work_on (in_order prices (placed (region ∷ []) cert.tree.nodes)) ++ last_events cert.answer

-- ---- the answer

-- an open leaf, and no open leaf has a better key
pub record IsBestOpen (prices : List ℤ) (leaves : List Placed) (leaf : Placed) : Type 0 where
  pub among : Contains leaves leaf
  pub still_open : IsTrue (is_open leaf.1)
  pub best : All (λ (other : Placed). IsTrue (is_open other.1) → better prices (cheapest prices other.0) (cheapest prices leaf.0) ≡ false) leaves

-- the whole budget was used, and the cheapest point of the open leaf with the best key doesn't repair
pub record IsCutShort (case : Case) (region : Bounds) (budget : ℕ) (tree : Tree) : Type 0 where
  pub used : node_count tree.nodes ≡ budget
  pub leaf : Placed
  pub best : IsBestOpen case.plan.olds (placed (region ∷ []) tree.nodes) leaf
  pub fails : Mends case (cheapest case.plan.olds leaf.0) → ⊥

-- the least cost among the keys of the open leaves
pub record IsLeastKey (case : Case) (region : Bounds) (f : Found) (least : ℕ) : Type 0 where
  pub inst : Instance
  pub is_instance : IsInstance case inst
  pub least_is : least ≡ at_least inst region (cert_of f)

-- budget comes only where the region has more points than a whole search needs
pub record IsBudget (case : Case) (region : Bounds) (budget : ℕ) (tree : Tree) (least : ℕ) : Type 0 where
  pub short : IsCutShort case region budget tree
  pub least_is : IsLeastKey case region (found.Budget tree least) least
  pub many : budget + 2 ≤ 2 * point_count region

-- the best of the region's repairs; that it has none; or that the budget was too small
abbrev pub Answers : Case → Bounds → ℕ → Found → Type 0
Answers case region budget (found.Repair p tree) = Least (Mends case) region case.plan.olds p
Answers case region budget (found.Nothing tree) = NoneOf (Mends case) region
Answers case region budget (found.Budget tree least) = IsBudget case region budget tree least

-- what a search over a region promises of its answer: its certificate is valid and lean over the region, has at most
-- `budget` split and refuted boxes, and its events, on a board of one explorer, give its tree
pub record IsSolved (case : Case) (region : Bounds) (budget : ℕ) (f : Found) : Type 0 where
  pub answers : Answers case region budget f
  pub valid : IsValidFor case region (cert_of f)
  pub lean : IsLeanFor case region (cert_of f)
  pub few : node_count (tree_in f).nodes ≤ budget
  pub replayed : tree_of (after_all (start region case.plan.olds 1) (events_of case.plan.olds region (cert_of f))) ≡ (tree_in f).nodes
