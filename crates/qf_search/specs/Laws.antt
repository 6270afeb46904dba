-- What stands of every board that stands for a problem.
use Rattle.std.specs.Prelude.{◌≡◌, ℤ, true, List, MatchOption}
use Rattle.qf_base.specs.Values.{In}
use Rattle.qf_point.specs.Least.{IsAnswer}
use Rattle.qf_goal.specs.Case.{Case, Mends, IsLeastRepair, HasNoRepair}
use Rattle.qf_goal.specs.SoundCase.{IsSoundCase}
use Rattle.qf_slice.specs.RootBox.{IsRootBox}
use Rattle.qf_board.specs.Boards.{BoardState, has_ended}
use Rattle.qf_board.specs.Allowed.{IsTruthful, IsLeftIn}
use Rattle.qf_search.specs.Standing.{StandsFor}

-- no refuted leaf holds a repair, the best found is a repair of the box, and so each repair of the box lies in an open or
-- held leaf
abbrev pub BoardsKeepRepairs : Type 0
BoardsKeepRepairs =
    (case : Case) (s : BoardState) → IsSoundCase case → StandsFor case s
    → IsTruthful (Mends case) s × ((q : List ℤ) → In s.root q → Mends case q → IsLeftIn s q)

-- a board that has ended has the best of the repairs of its box as its best found, and nothing where there are none
abbrev pub EndedBoardsAnswer : Type 0
EndedBoardsAnswer =
    (case : Case) (s : BoardState) → IsSoundCase case → StandsFor case s → has_ended s ≡ true → IsAnswer (Mends case) s.root case.plan.olds s.best

-- .. and, over the root box, the least repair, and nothing where there is no repair
abbrev pub EndedBoardsHaveTheLeastRepair : Type 0
EndedBoardsHaveTheLeastRepair =
    (case : Case) (s : BoardState) → IsSoundCase case → StandsFor case s → has_ended s ≡ true → IsRootBox case s.root
    → MatchOption s.best (HasNoRepair case) (λ p. IsLeastRepair case p)

-- two boards that have ended over one box have the same best found
abbrev pub EndedBoardsAreAlike : Type 0
EndedBoardsAreAlike =
    (case : Case) (s t : BoardState) → IsSoundCase case → StandsFor case s → StandsFor case t → s.root ≡ t.root → has_ended s ≡ true → has_ended t ≡ true
    → s.best ≡ t.best
