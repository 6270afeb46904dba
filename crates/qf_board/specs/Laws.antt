-- What stands after any list of events of any number of explorers.
use Rattle.std.specs.Prelude.{◌≡◌, ◌≢◌, ℕ, ℤ, Bool, true, IsTrue, List, length}
use Rattle.qf_base.specs.declared.names.RowName.{RowName}
use Rattle.qf_lin.specs.declared.step.Step.{Step}
use Rattle.qf_point.specs.Points.{Price, HasNoEmpty, In}
use Rattle.qf_point.specs.Least.{IsAnswer}
use Rattle.qf_board.specs.Boards.{Box, Event, start, after, after_all, CanHappen, CanAllHappen, IsPartition, HoldsOne, held_box, has_ended}
use Rattle.qf_board.specs.Allowed.{who_of, AreAllowed, IsTruthful, IsLeftIn}

-- the leaves' boxes are a partition of the root box, and each explorer holds at most one
abbrev pub BoardsKeepTheirLeaves : Type 0
BoardsKeepTheirLeaves =
    (root : Box) (prices : List Price) (explorers : ℕ) (events : List Event) → length prices ≡ length root → HasNoEmpty root
    → CanAllHappen (start root prices explorers) events
    → IsPartition (after_all (start root prices explorers) events) × HoldsOne (after_all (start root prices explorers) events)

-- what one explorer does leaves the box that another one holds
abbrev pub OthersKeepTheirs : Type 0
OthersKeepTheirs =
    (root : Box) (prices : List Price) (explorers : ℕ) (events : List Event) (next : Event) (other : ℕ) → length prices ≡ length root → HasNoEmpty root
    → CanAllHappen (start root prices explorers) events → CanHappen (after_all (start root prices explorers) events) next → other ≢ who_of next
    → held_box (after (after_all (start root prices explorers) events) next) other ≡ held_box (after_all (start root prices explorers) events) other

module _ (Repairs : List ℤ → Type 0) (Refutes : Box → RowName → List Step → Type 0) where
  -- steps that refute a box leave no repair in it that lies in the root box
  abbrev pub StepsAreSound : Box → Type 0
  StepsAreSound root = (b : Box) (row : RowName) (steps : List Step) → Refutes b row steps → (q : List ℤ) → In root q → In b q → Repairs q → ⊥

  -- no refuted leaf holds a repair, the best found repairs, and so each repair of the root box lies in a box that is left
  abbrev pub LosesNoRepair : Type 0
  LosesNoRepair =
      (root : Box) (prices : List Price) (explorers : ℕ) (events : List Event) → length prices ≡ length root → HasNoEmpty root → StepsAreSound root
      → AreAllowed Repairs Refutes (start root prices explorers) events
      → IsTruthful Repairs (after_all (start root prices explorers) events)
      × ((q : List ℤ) → In root q → Repairs q → IsLeftIn (after_all (start root prices explorers) events) q)

  -- a board that has ended has found the least repair of the root box, or nothing where there is none
  abbrev pub EndsWithTheAnswer : Type 0
  EndsWithTheAnswer =
      (root : Box) (prices : List Price) (explorers : ℕ) (events : List Event) → length prices ≡ length root → HasNoEmpty root → StepsAreSound root
      → AreAllowed Repairs Refutes (start root prices explorers) events → has_ended (after_all (start root prices explorers) events) ≡ true
      → IsAnswer Repairs root prices (after_all (start root prices explorers) events).best

  -- any two lists of events after which the board has ended leave the same best found
  abbrev pub EndsAgree : Type 0
  EndsAgree =
      (root : Box) (prices : List Price) (m n : ℕ) (first second : List Event) → length prices ≡ length root → HasNoEmpty root → StepsAreSound root
      → AreAllowed Repairs Refutes (start root prices m) first → AreAllowed Repairs Refutes (start root prices n) second
      → has_ended (after_all (start root prices m) first) ≡ true → has_ended (after_all (start root prices n) second) ≡ true
      → (after_all (start root prices m) first).best ≡ (after_all (start root prices n) second).best

-- .. for whatever passes the tests that say what repairs and what refutes
abbrev pub BoardsLoseNoRepair : Type 0
BoardsLoseNoRepair =
    (repairs : List ℤ → Bool) (refutes : Box → RowName → List Step → Bool) → LosesNoRepair (λ q. IsTrue (repairs q)) (λ b row steps. IsTrue (refutes b row steps))

abbrev pub EndedBoardsAnswer : Type 0
EndedBoardsAnswer =
    (repairs : List ℤ → Bool) (refutes : Box → RowName → List Step → Bool) → EndsWithTheAnswer (λ q. IsTrue (repairs q)) (λ b row steps. IsTrue (refutes b row steps))

abbrev pub EndedBoardsAgree : Type 0
EndedBoardsAgree =
    (repairs : List ℤ → Bool) (refutes : Box → RowName → List Step → Bool) → EndsAgree (λ q. IsTrue (repairs q)) (λ b row steps. IsTrue (refutes b row steps))
