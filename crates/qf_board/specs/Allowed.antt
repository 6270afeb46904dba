-- Events that each have what they need for one problem: of the board, that the steps refute the box, and that its
-- cheapest point repairs.
use Rattle.std.specs.Prelude.{◌≡◌, ℕ, ◌-◌, ◌<◌, ℤ, Bool, true, false, List, [], ◌∷◌, length, slice_index_or, IfSome}
use Rattle.std.specs.List.{AllByRecursion}
use Rattle.qf_base.specs.declared.names.RowName.{RowName}
use Rattle.qf_lin.specs.declared.step.Step.{Step}
use Rattle.qf_point.specs.Points.{cheapest, CanCut, In}
use Rattle.qf_board.specs.Boards.{BoardState, Place, Split, Refuted, Open, Held, Box, boxes, box_at, HoldsAt, Holds, HoldsNone, Event, Take, Refute, Cut, Found, GiveBack, after}

-- whose event it is
abbrev pub who_of : Event → ℕ
who_of (Take e) = e
who_of (Refute e row steps) = e
who_of (Cut e param cut row) = e
who_of (Found e) = e
who_of (GiveBack e) = e

module _ (Repairs : List ℤ → Type 0) (Refutes : Box → RowName → List Step → Type 0) where
  -- what the event needs: of the board, and of the problem
  abbrev pub IsAllowed : BoardState → Event → Type 0
  IsAllowed s (Take e) = (e < s.explorers) × HoldsNone s e
  IsAllowed s (Refute e row steps) = (k : ℕ) × HoldsAt s e k × Refutes (box_at s k) row steps
  IsAllowed s (Cut e param cut row) = (k : ℕ) × HoldsAt s e k × (0 < param) × CanCut (box_at s k) (param - 1) cut
  IsAllowed s (Found e) = (k : ℕ) × HoldsAt s e k × Repairs (cheapest s.prices (box_at s k))
  IsAllowed s (GiveBack e) = Holds s e

  abbrev pub AreAllowed : BoardState → List Event → Type 0
  AreAllowed s [] = Unit {0}
  AreAllowed s (e ∷ events) = IsAllowed s e × AreAllowed (after s e) events

module _ (Repairs : List ℤ → Type 0) where
  -- a refuted leaf holds no repair
  abbrev pub HoldsNoRepair : Box × Place → Type 0
  HoldsNoRepair (b, Refuted row steps) = (q : List ℤ) → In b q → Repairs q → ⊥
  HoldsNoRepair (b, Split param cut row) = Unit {0}
  HoldsNoRepair (b, Open) = Unit {0}
  HoldsNoRepair (b, Held who) = Unit {0}

  -- no refuted leaf holds a repair, and the best found is a repair of the root box
  pub record IsTruthful (s : BoardState) : Type 0 where
    pub refuted : AllByRecursion HoldsNoRepair (boxes s)
    pub found : IfSome s.best (λ p. In s.root p × Repairs p)

-- a leaf that is not refuted
abbrev pub is_left : Place → Bool
is_left (Split param cut row) = false
is_left (Refuted row steps) = false
is_left Open = true
is_left (Held who) = true

-- the point lies in an open or held box
pub record IsLeftIn (s : BoardState) (q : List ℤ) : Type 0 where
  pub place : ℕ
  pub within : place < length s.places
  pub left : is_left (slice_index_or s.places place Open) ≡ true
  pub inside : In (box_at s place) q
