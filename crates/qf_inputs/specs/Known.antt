-- What is known of what was read.
use Rattle.std.specs.Prelude.{◌≡◌, ℕ, ◌<◌, ◌^◌, ℤ, List, length}
use Rattle.qf_base.specs.Values.{In}
use Rattle.qf_ir.specs.Plan.{IsSound, Belongs}
use Rattle.qf_ir.specs.Tables.{IsSoundTable}
use Rattle.qf_log.specs.Reading.{IsLogOf, olds_of}
use Rattle.qf_point.specs.Points.{HasNoEmpty}
use Rattle.qf_slice.specs.RootBox.{IsRootBox}
use Rattle.qf_inputs.specs.declared.story.Story.{Story}
use Rattle.qf_inputs.specs.declared.inputs.Inputs.{Inputs}
use Rattle.qf_inputs.specs.declared.opened.Opened.{Opened}

-- the program was made of the log for the table
pub record IsSoundStory (story : Story) : Type 0 where
  pub table : IsSoundTable story.table
  pub program : IsSound story.program
  pub belongs : Belongs story.program story.table
  pub olds : story.program.olds ≡ olds_of story.log
  pub few_texts : length story.program.texts < 2 ^ 31

-- the log was read from these bytes, and its constants are those of the problem
pub record AreOf (log : List ℕ) (inputs : Inputs) : Type 0 where
  pub read : IsLogOf log inputs.log
  pub olds : inputs.problem.plan.olds ≡ olds_of inputs.log

-- the box is the problem's root box, which lies in the domains
pub record IsSearchable (opened : Opened) : Type 0 where
  pub root : IsRootBox opened.problem opened.root
  pub spans : HasNoEmpty opened.root
  pub within : (q : List ℤ) → In opened.root q → In opened.problem.domains.region q
