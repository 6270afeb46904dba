-- When a tree does no more than it must.
use Rattle.std.specs.Prelude.{◌≡◌, ℤ, Bool, ◌⊎◌, List, [], ◌∷◌, Option, Some, IsTrue, IsFalse, Contains, All}
use Rattle.std.specs.List.{list_any}
use Rattle.qf_base.specs.Values.{Bounds}
use Rattle.qf_base.specs.declared.names.RowName.{RowName}
use Rattle.qf_lin.specs.Steps.{is_closable}
use Rattle.qf_tree.specs.declared.tree.Node.{Node}
use Rattle.qf_tree.specs.declared.tree.Node.TheVariants.{Split, Refuted, Dear, Open}
use Rattle.qf_tree.specs.declared.cert.Answer.{Answer}
use Rattle.qf_tree.specs.declared.cert.Answer.TheVariants.{Repair, Nothing, Budget, Best}
use Rattle.qf_tree.specs.declared.cert.Cert.{Cert}
use Rattle.qf_point.specs.Points.{better, cheapest}
use Rattle.qf_tree.specs.Certificates.{Instance, Placed, placed}

-- what a lean tree looks at besides
pub record Aims : Type 0 where
  -- the complained rows in row order
  pub complained : List RowName
  -- the row misses its goal at the point
  pub misses : List ℤ → RowName → Bool
  -- the first complained row that misses its goal, else the first other one
  pub first_missed : List ℤ → Option RowName

-- the box is closed by some complained row
abbrev pub is_closable_box : Instance → Aims → Bounds → Bool
is_closable_box inst aims region =
    list_any (λ row. is_closable (inst.system row) (inst.hull row region)) aims.complained

abbrev pub NamedBySplit : RowName → List Node → Type 0
NamedBySplit row [] = ⊥
NamedBySplit row (Split param cut named ∷ nodes) = (named ≡ row) ⊎ NamedBySplit row nodes
NamedBySplit row (Refuted other steps ∷ nodes) = NamedBySplit row nodes
NamedBySplit row (Dear ∷ nodes) = NamedBySplit row nodes
NamedBySplit row (Open ∷ nodes) = NamedBySplit row nodes

-- under a repair, only boxes whose key is better than the repair are worked on
abbrev pub IsWorthWork : Instance → Answer → Bounds → Type 0
IsWorthWork inst (Repair p) region = IsTrue (better inst.olds (cheapest inst.olds region) p)
IsWorthWork inst Nothing region = Unit {0}
IsWorthWork inst Budget region = Unit {0}
IsWorthWork inst (Best p) region = Unit {0}

abbrev pub NodeIsLean : Instance → Aims → Cert → Placed → Type 0
NodeIsLean inst aims cert (region, Split param cut row) =
    IsTrue (inst.is_needed param) × IsFalse (is_closable_box inst aims region) × (aims.first_missed (cheapest inst.olds region) ≡ Some row) × IsWorthWork inst cert.answer region
NodeIsLean inst aims cert (region, Refuted row steps) =
    (Contains aims.complained row ⊎ (IsTrue (aims.misses (cheapest inst.olds region) row) ⊎ NamedBySplit row cert.tree.nodes)) × IsWorthWork inst cert.answer region
NodeIsLean inst aims cert (region, Dear) = Unit {0}
NodeIsLean inst aims cert (region, Open) = Unit {0}

-- no open box is better than a worked one
abbrev pub InOrder : Instance → Placed → Placed → Type 0
InOrder inst (waiting, Open) (worked, Split param cut row) = IsFalse (better inst.olds (cheapest inst.olds waiting) (cheapest inst.olds worked))
InOrder inst (waiting, Open) (worked, Refuted row steps) = IsFalse (better inst.olds (cheapest inst.olds waiting) (cheapest inst.olds worked))
InOrder inst left right = Unit {0}

-- over a region, the box of the top node
pub record IsLean (inst : Instance) (aims : Aims) (region : Bounds) (cert : Cert) : Type 0 where
  pub nodes : All (λ leaf. NodeIsLean inst aims cert leaf) (placed (region ∷ []) cert.tree.nodes)
  pub best_first : All (λ one. All (λ other. InOrder inst one other) (placed (region ∷ []) cert.tree.nodes)) (placed (region ∷ []) cert.tree.nodes)
