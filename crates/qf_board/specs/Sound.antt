-- A board that a list of events leads to.
use Rattle.std.specs.Prelude.{◌≡◌, ◌-◌, List, [], ◌∷◌, length}
use Rattle.qf_point.specs.Points.{lower_half, upper_half, CanCut, HasNoEmpty}
use Rattle.qf_board.specs.Boards.{BoardState, Place, Split, Refuted, Open, Held, Box, HoldsOne}

-- the nodes are whole trees over the pending boxes, and each split cuts its box
abbrev pub Stands : List Place → List Box → Type 0
Stands [] [] = Unit {0}
Stands [] (b ∷ pending) = ⊥
Stands (n ∷ places) [] = ⊥
Stands (Split param cut row ∷ places) (b ∷ pending) = CanCut b (param - 1) cut × Stands places (lower_half b (param - 1) cut ∷ upper_half b (param - 1) cut ∷ pending)
Stands (Refuted row steps ∷ places) (b ∷ pending) = Stands places pending
Stands (Open ∷ places) (b ∷ pending) = Stands places pending
Stands (Held who ∷ places) (b ∷ pending) = Stands places pending

pub record IsSound (s : BoardState) : Type 0 where
  pub stands : Stands s.places (s.root ∷ [])
  pub holds_one : HoldsOne s
  pub priced : length s.prices ≡ length s.root
  pub spans : HasNoEmpty s.root
