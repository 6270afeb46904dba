-- When a certificate is valid, and what its answer claims.
use Rattle.std.specs.Prelude.{◌≡◌, ℕ, ◌+◌, ◌-◌, ◌≤◌, min, Bool, true, false, cond, not, ◌&&◌, List, [], ◌∷◌, ◌++◌, length, map, filter, fold, ℤ, int_lt, int_le, Option, Some, None, IsTrue, ◌⊎◌, ◌↔◌, All}
use Rattle.std.specs.List.{list_any}
use Rattle.qf_base.specs.Values.{Bounds, interval_of_var, IsWithin}
use Rattle.qf_base.specs.declared.names.RowName.{RowName}
use Rattle.qf_lin.specs.declared.inequality.System.{System}
use Rattle.qf_lin.specs.Inequalities.{AllHold}
use Rattle.qf_tree.specs.Refutations.{IsRefutation, first_wrong_step, one_later}
use Rattle.qf_tree.specs.Lines.{node_lines, cert_lines, HasSpelling}
use Rattle.qf_tree.specs.declared.tree.Node.{Node}
use Rattle.qf_tree.specs.declared.tree.Node.TheVariants.{Split, Refuted, Dear, Open}
use Rattle.qf_tree.specs.declared.cert.Answer.{Answer}
use Rattle.qf_tree.specs.declared.cert.Answer.TheVariants.{Repair, Nothing, Budget, Best}
use Rattle.qf_tree.specs.declared.cert.Cert.{Cert}
use Rattle.qf_point.specs.Points.{cost, better, cheapest, is_in, lower_half, upper_half, In}
use Rattle.qf_point.specs.Least.{Least, Nothing as NoneOf}

-- What a certificate speaks of. The system of a row is the same over every box; its hull follows the box.
pub record Instance : Type 0 where
  pub olds : List ℤ
  pub domains : Bounds
  -- the domains of the needed parameters, and the old constants of the others
  pub root : Bounds
  pub is_needed : ℕ → Bool
  pub has_row : RowName → Bool
  pub repairs : List ℤ → Bool
  pub system : RowName → System
  -- the intervals of a row's circuit over a box
  pub hull : RowName → Bounds → Bounds

-- ---- the boxes of a tree

abbrev pub halves : Bounds → Node → List Bounds
halves region (Split param cut row) = lower_half region (param - 1) cut ∷ upper_half region (param - 1) cut ∷ []
halves region (Refuted row steps) = []
halves region Dear = []
halves region Open = []

abbrev pub Placed : Type 0
Placed = Bounds × Node

-- each node with its box, where the first nodes belong to these boxes
abbrev pub placed : List Bounds → List Node → List Placed
placed regions [] = []
placed [] (node ∷ nodes) = []
placed (region ∷ regions) (node ∷ nodes) = (region, node) ∷ placed (halves region node ++ regions) nodes

-- ---- the rule of each line

abbrev pub cuts_inside : Bounds → ℕ → ℤ → Bool
cuts_inside region param cut =
    int_le (interval_of_var region param).0 cut && int_lt cut (interval_of_var region param).1

abbrev pub dear_is_right : Instance → Answer → Bounds → Bool
dear_is_right inst (Repair p) region = not (better inst.olds (cheapest inst.olds region) p)
dear_is_right inst (Best p) region = not (better inst.olds (cheapest inst.olds region) p)
dear_is_right inst Nothing region = false
dear_is_right inst Budget region = false

abbrev pub may_be_open : Answer → Bool
may_be_open (Repair p) = false
may_be_open Nothing = false
may_be_open Budget = true
may_be_open (Best p) = true

-- the node keeps its rules: a cut is inside its box, the steps of a refuted node refute the hull of its box, the cheapest
-- point of a dear box is no better than the stated one, and a box may be left open
abbrev pub NodeIsRight : Instance → Answer → Placed → Type 0
NodeIsRight inst answer (region, Split param cut row) =
    IsTrue (inst.is_needed param) × IsTrue (cuts_inside region param cut) × IsTrue (inst.has_row row)
NodeIsRight inst answer (region, Refuted row steps) =
    IsTrue (inst.has_row row) × IsRefutation (inst.system row) (inst.hull row region) steps
NodeIsRight inst answer (region, Dear) = IsTrue (dear_is_right inst answer region)
NodeIsRight inst answer (region, Open) = IsTrue (may_be_open answer)

-- the stated point lies in the domains and repairs
abbrev pub point_is_right : Instance → List ℤ → Bool
point_is_right inst p = is_in inst.domains p && inst.repairs p

abbrev pub answer_is_right : Instance → Answer → Bool
answer_is_right inst (Repair p) = point_is_right inst p
answer_is_right inst (Best p) = point_is_right inst p
answer_is_right inst Nothing = true
answer_is_right inst Budget = true

abbrev pub is_open : Node → Bool
is_open (Split param cut row) = false
is_open (Refuted row steps) = false
is_open Dear = false
is_open Open = true

-- under `Budget` and `Best` a box is left open
abbrev pub end_is_right : Answer → List Node → Bool
end_is_right (Repair p) nodes = true
end_is_right Nothing nodes = true
end_is_right Budget nodes = list_any is_open nodes
end_is_right (Best p) nodes = list_any is_open nodes

-- A certificate is valid over a region, the box of its top node, where it has a spelling and each of its lines keeps its
-- rule.
pub record IsValid (inst : Instance) (region : Bounds) (cert : Cert) : Type 0 where
  pub spelled : HasSpelling cert
  pub answer : IsTrue (answer_is_right inst cert.answer)
  pub nodes : All (λ leaf. NodeIsRight inst cert.answer leaf) (placed (region ∷ []) cert.tree.nodes)
  pub end : IsTrue (end_is_right cert.answer cert.tree.nodes)

-- ---- the first line that breaks its rule

abbrev pub wrong_unless : Bool → Option ℕ
wrong_unless right = cond right None (Some 0)

-- the first line of the node that breaks its rule, counted from 0
abbrev pub node_fault : Instance → Answer → Placed → Option ℕ
node_fault inst answer (region, Split param cut row) = wrong_unless (inst.is_needed param && cuts_inside region param cut && inst.has_row row)
node_fault inst answer (region, Refuted row steps) =
    cond (inst.has_row row) (one_later (first_wrong_step (inst.system row) ((inst.hull row region, 0) ∷ []) steps)) (Some 0)
node_fault inst answer (region, Dear) = wrong_unless (dear_is_right inst answer region)
node_fault inst answer (region, Open) = wrong_unless (may_be_open answer)

abbrev pub line_count : Node → ℕ
line_count node = length (node_lines node)

abbrev pub first_of_two : ℕ → Option ℕ → Option ℕ → Option ℕ
first_of_two line None later = later
first_of_two line (Some n) later = Some (line + n)

-- the first line that breaks its rule, where the first node stands at this line; else the later one
abbrev pub fault_from : Instance → Answer → ℕ → List Placed → Option ℕ
fault_from inst answer line [] = None
fault_from inst answer line (leaf ∷ leaves) =
    first_of_two line (node_fault inst answer leaf) (fault_from inst answer (line + line_count leaf.1) leaves)

abbrev pub end_fault : Cert → Option ℕ
end_fault cert = cond (end_is_right cert.answer cert.tree.nodes) None (Some (length (cert_lines cert)))

-- The first line that breaks its rule: the head is line 1, the answer line 2, the first node stands at line 3, and the
-- last line is the end.
abbrev pub first_bad_line : Instance → Bounds → Cert → Option ℕ
first_bad_line inst region cert =
    cond (answer_is_right inst cert.answer) (first_of_two 0 (fault_from inst cert.answer 3 (placed (region ∷ []) cert.tree.nodes)) (end_fault cert)) (Some 2)

-- no line of a certificate that has a spelling is bad exactly where it is valid
abbrev pub BadLinesAreFound : Type 0
BadLinesAreFound =
    (inst : Instance) (region : Bounds) (cert : Cert) → HasSpelling cert → (first_bad_line inst region cert ≡ None) ↔ IsValid inst region cert

-- ---- the answer's claim

abbrev pub Repairing : Instance → List ℤ → Type 0
Repairing inst p = IsTrue (inst.repairs p)

-- no repair in the domains costs less
abbrev pub NoneCheaper : Instance → ℕ → Type 0
NoneCheaper inst least = (q : List ℤ) → In inst.domains q → Repairing inst q → least ≤ cost inst.olds q

abbrev pub least_of : List ℕ → ℕ
least_of [] = 0
least_of (x ∷ xs) = fold min x xs

abbrev pub open_costs : Instance → List Placed → List ℕ
open_costs inst leaves =
    map (λ (leaf : Placed). cost inst.olds (cheapest inst.olds leaf.0)) (filter (λ (leaf : Placed). is_open leaf.1) leaves)

abbrev pub stated_costs : Instance → Answer → List ℕ
stated_costs inst (Repair p) = []
stated_costs inst (Best p) = cost inst.olds p ∷ []
stated_costs inst Nothing = []
stated_costs inst Budget = []

-- the least cost among the keys of the open boxes, and of the stated point under `Best`
abbrev pub at_least : Instance → Bounds → Cert → ℕ
at_least inst region cert =
    least_of (stated_costs inst cert.answer ++ open_costs inst (placed (region ∷ []) cert.tree.nodes))

abbrev pub ClaimHolds : Instance → Answer → ℕ → Type 0
ClaimHolds inst (Repair p) least = Least (Repairing inst) inst.domains inst.olds p
ClaimHolds inst Nothing least = NoneOf (Repairing inst) inst.domains
ClaimHolds inst Budget least = NoneCheaper inst least
ClaimHolds inst (Best p) least = In inst.domains p × Repairing inst p × NoneCheaper inst least

-- the point repairs, and no repair of the region is better
abbrev pub NoneBetter : Instance → Bounds → List ℤ → Type 0
NoneBetter inst region p =
    In inst.domains p × Repairing inst p × ((q : List ℤ) → IsWithin q region → Repairing inst q → better inst.olds q p ≡ false)

-- no repair of the region costs less
abbrev pub NoneCheaperIn : Instance → Bounds → ℕ → Type 0
NoneCheaperIn inst region least = (q : List ℤ) → IsWithin q region → Repairing inst q → least ≤ cost inst.olds q

-- the answer's claim over a region
abbrev pub RegionClaim : Instance → Bounds → Answer → ℕ → Type 0
RegionClaim inst region (Repair p) least = NoneBetter inst region p
RegionClaim inst region Nothing least = (q : List ℤ) → IsWithin q region → Repairing inst q → ⊥
RegionClaim inst region Budget least = NoneCheaperIn inst region least
RegionClaim inst region (Best p) least = In inst.domains p × Repairing inst p × NoneCheaperIn inst region least

-- ---- what the claim rests on

pub record IsFaithful (inst : Instance) : Type 0 where
  pub same_length : length inst.olds ≡ length inst.domains
  pub root_length : length inst.root ≡ length inst.domains
  -- parameters that are not needed may keep their old constants
  pub sliced : (q : List ℤ) → In inst.domains q → Repairing inst q → (r : List ℤ) × IsWithin r inst.root × IsTrue (inst.repairs r) × ((r ≡ q) ⊎ IsTrue (better inst.olds r q))
  -- a repair in a box gives values within the hull that satisfy a row's system
  pub encoded : (row : RowName) (region : Bounds) (q : List ℤ) → IsTrue (inst.has_row row) → IsWithin q inst.root → IsWithin q region → IsTrue (inst.repairs q) → (values : List ℤ) × AllHold (inst.system row).inequalities values × IsWithin values (inst.hull row region)

-- each point of the region is one of the root box
abbrev pub LiesInRoot : Instance → Bounds → Type 0
LiesInRoot inst region = (q : List ℤ) → IsWithin q region → IsWithin q inst.root

-- where a certificate is valid over the root box, its claim holds
abbrev pub CertificatesAreSound : Type 0
CertificatesAreSound =
    (inst : Instance) (cert : Cert) → IsFaithful inst → IsValid inst inst.root cert → ClaimHolds inst cert.answer (at_least inst inst.root cert)

-- where it is valid over a region in the root box, it speaks of the region's repairs: its repair is the best of them or
-- better than all of them
abbrev pub RegionsAreSound : Type 0
RegionsAreSound =
    (inst : Instance) (region : Bounds) (cert : Cert) → IsFaithful inst → LiesInRoot inst region → IsValid inst region cert → RegionClaim inst region cert.answer (at_least inst region cert)
