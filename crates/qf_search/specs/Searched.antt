-- How a search goes: what it stands on, and how its run ended.
use Rattle.std.specs.Prelude.{◌≡◌, ℕ, Bool, true}
use Rattle.std.specs.Bool.{Decides}
use Rattle.qf_base.specs.Values.{Bounds}
use Rattle.qf_point.specs.Domains.{HasSmallEnds}
use Rattle.qf_goal.specs.Case.{Case}
use Rattle.qf_goal.specs.SoundCase.{IsSoundCase}
use Rattle.qf_slice.specs.RootBox.{IsNeeded, IsRootBox}
use Rattle.qf_encode.specs.Lives.{BoxIn}
use Rattle.qf_board.specs.Boards.{BoardState, start, has_ended}
use Rattle.qf_search.specs.Exploring.{Explores, IsIdle, IsSpent}
use Rattle.qf_search.specs.declared.exploring.Explored.{Explored}
use Rattle.qf_search.specs.declared.exploring.Explored.TheVariants as explored

-- the region lies in the root box, a test says which parameters are needed, and the ends of the domains are within 2^50
pub record IsGround (case : Case) (root region : Bounds) (params : ℕ → Bool) : Type 0 where
  pub sound : IsSoundCase case
  pub is_root : IsRootBox case root
  pub inside : BoxIn region root
  pub small : HasSmallEnds case.domains.region
  pub needed : (k : ℕ) → Decides (params k) (IsNeeded case k)

pub record HasGround (case : Case) (region : Bounds) : Type 0 where
  pub root : Bounds
  pub params : ℕ → Bool
  pub is : IsGround case root region params

-- one explorer alone ran so on a board over the region
pub record HasRun (case : Case) (region : Bounds) (budget : ℕ) (t : BoardState) (r : Explored) : Type 0 where
  pub run : Explores case 0 budget (start region case.plan.olds 1) t
  pub ended : r ≡ explored.Ended → has_ended t ≡ true
  pub idle : r ≡ explored.Idle → IsIdle 0 t
  pub spent : r ≡ explored.Spent → IsSpent case budget (start region case.plan.olds 1) t
