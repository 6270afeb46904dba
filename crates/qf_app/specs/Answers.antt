-- The answers of the commands: what may be delivered, once the files were read.
use Rattle.std.specs.Prelude.{◌≡◌, ℕ, ℤ, List, [], ◌∷◌, Result, Ok, Err}
use Rattle.qf_base.specs.declared.refusal.Refusal.{Refusal}
use Rattle.qf_base.specs.Values.{Bounds}
use Rattle.qf_base.specs.declared.status.Status.{Status}
use Rattle.qf_base.specs.declared.status.Status.TheVariants.{Done}
use Rattle.qf_inputs.specs.Inputs.{widths_in}
use Rattle.qf_inputs.specs.Opened.{IsQuestion}
use Rattle.qf_inputs.specs.Story.{IsStory}
use Rattle.qf_inputs.specs.declared.opened.Opened.{Opened}
use Rattle.qf_inputs.specs.declared.story.Story.{Story}
use Rattle.qf_ir.specs.Plan.{final_rows}
use Rattle.qf_point.specs.Domains.{domains_from}
use Rattle.qf_shell.specs.Promise.{refusal_answer}
use Rattle.qf_shell.specs.declared.answer.Answer.{Answer}
use Rattle.qf_table.specs.Printing.{table_text}
use Rattle.qf_app.specs.Checking.{IsChecked}
use Rattle.qf_app.specs.Finding.{IsFound}
use Rattle.qf_app.specs.Parameters.{parameters_text}
use Rattle.qf_app.specs.Request.{Diagnosis, Request, diagnose, check, replay, params}

-- what is accepted is answered, and what is refused has its refusal
abbrev pub or_refused : {A : Type 0} → (A → Answer → Type 0) → Result A Refusal → Answer → Type 0
or_refused answers (Ok a) answer = answers a answer
or_refused answers (Err refusal) answer = answer ≡ refusal_answer refusal

-- a line is said with a status, and nothing is put
pub record IsLine (status : Status) (line : List ℕ) (answer : Answer) : Type 0 where
  pub status_is : answer.status ≡ status
  pub files : answer.files ≡ []
  pub line_is : answer.line ≡ line

-- ---- `diagnose`

-- a certificate and what it shows, or the first refusal of the four files
pub record IsDiagnosis (words : Diagnosis) (initial log complaints domains : List ℕ) (answer : Answer) : Type 0 where
  pub opened : Result Opened Refusal
  pub question : IsQuestion initial log complaints domains opened
  pub answer_is : or_refused (IsFound words log) opened answer

-- ---- `check`

-- what the certificate is for the problem of the four files, or their first refusal
pub record IsCheck (initial log complaints domains certificate : List ℕ) (answer : Answer) : Type 0 where
  pub opened : Result Opened Refusal
  pub is_question : IsQuestion initial log complaints domains opened
  pub answer_is : or_refused (λ (o : Opened). IsChecked o.problem certificate) opened answer

-- ---- `replay`

-- each parameter has its old constant alone
abbrev pub olds_alone : List ℤ → Bounds
olds_alone olds = domains_from 1 olds []

abbrev pub with_widths : Story → Result Bounds Refusal → Result Story Refusal
with_widths story (Err refusal) = Err refusal
with_widths story (Ok widths) = Ok story

abbrev pub if_narrow : Result Story Refusal → Result Story Refusal
if_narrow (Err refusal) = Err refusal
if_narrow (Ok story) = with_widths story (widths_in story.program story.table (olds_alone story.program.olds))

-- the story of the two files, where no statement is too wide, or the first refusal
pub record IsReplayed (initial log : List ℕ) (replayed : Result Story Refusal) : Type 0 where
  pub story : Result Story Refusal
  pub story_is : IsStory initial log story
  pub replayed_is : replayed ≡ if_narrow story

-- the final rows with the old constants
abbrev pub IsFinalTable : Story → Answer → Type 0
IsFinalTable story answer =
    IsLine Done (table_text story.program.columns story.program.texts (final_rows story.program story.table story.program.olds)) answer

pub record IsTable (initial log : List ℕ) (answer : Answer) : Type 0 where
  pub replayed : Result Story Refusal
  pub is_replayed : IsReplayed initial log replayed
  pub answer_is : or_refused IsFinalTable replayed answer

-- ---- `params`

abbrev pub AreItsParameters : Story → Answer → Type 0
AreItsParameters story answer = IsLine Done (parameters_text story.log.parameters) answer

pub record AreParameters (initial log : List ℕ) (answer : Answer) : Type 0 where
  pub story : Result Story Refusal
  pub is_story : IsStory initial log story
  pub answer_is : or_refused AreItsParameters story answer

-- ---- of each command, over its files in the order in which they are read

abbrev pub answers_of : Request → List (List ℕ) → Answer → Type 0
answers_of (diagnose words) (initial ∷ log ∷ complaints ∷ domains ∷ []) answer = IsDiagnosis words initial log complaints domains answer
answers_of (check words) (initial ∷ log ∷ complaints ∷ domains ∷ certificate ∷ []) answer = IsCheck initial log complaints domains certificate answer
answers_of (replay words) (initial ∷ log ∷ []) answer = IsTable initial log answer
answers_of (params words) (initial ∷ log ∷ []) answer = AreParameters initial log answer
answers_of request files answer = ⊥
