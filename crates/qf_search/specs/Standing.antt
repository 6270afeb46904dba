-- What the events of a board need for a problem, and which boards stand for one.
use Rattle.std.specs.Prelude.{◌≡◌, List, IsTrue}
use Rattle.qf_base.specs.declared.names.RowName.{RowName}
use Rattle.qf_base.specs.Values.{Bounds}
use Rattle.qf_lin.specs.declared.step.Step.{Step}
use Rattle.qf_goal.specs.Case.{Case, Mends}
use Rattle.qf_slice.specs.RootBox.{IsRootBox}
use Rattle.qf_tree.specs.Refutations.{IsRefutation}
use Rattle.qf_tree.specs.Certificates.{Instance}
use Rattle.qf_encode.specs.Lives.{BoxIn}
use Rattle.qf_instance.specs.Instances.{IsInstance}
use Rattle.qf_board.specs.Boards.{BoardState, Box, Event, start, after_all}
use Rattle.qf_board.specs.Allowed.{AreAllowed}

-- the row exists, and the steps refute the hull of the box for its system
abbrev pub RefutesIn : Instance → Box → RowName → List Step → Type 0
RefutesIn inst b row steps = IsTrue (inst.has_row row) × IsRefutation (inst.system row) (inst.hull row b) steps

-- .. for a problem, of which certificates speak by its one instance
abbrev pub RefutesFor : Case → Box → RowName → List Step → Type 0
RefutesFor case b row steps = (inst : Instance) × IsInstance case inst × RefutesIn inst b row steps

-- each event has what it needs: of the board; a refuted box is refuted by its steps; a found point repairs
abbrev pub AreAllowedFor : Case → BoardState → List Event → Type 0
AreAllowedFor case s events = AreAllowed (Mends case) (RefutesFor case) s events

-- The board began as a box in the problem's root box, with the old constants and no empty interval, and events of any
-- explorers led to it.
pub record StandsFor (case : Case) (s : BoardState) : Type 0 where
  pub olds : s.prices ≡ case.plan.olds
  pub root : Bounds
  pub is_root : IsRootBox case root
  pub inside : BoxIn s.root root
  pub events : List Event
  pub allowed : AreAllowedFor case (start s.root s.prices s.explorers) events
  pub leads : after_all (start s.root s.prices s.explorers) events ≡ s
