-- The same bytes say one thing: a story, or a first refusal; and a question, or a first refusal.
use Rattle.std.specs.Prelude.{◌≡◌, ℕ, List, Result}
use Rattle.qf_base.specs.declared.refusal.Refusal.{Refusal}
use Rattle.qf_log.specs.Reading.{Reading}
use Rattle.qf_inputs.specs.Story.{IsLog, IsStory}
use Rattle.qf_inputs.specs.Inputs.{AreInputs}
use Rattle.qf_inputs.specs.Opened.{IsQuestion}
use Rattle.qf_inputs.specs.declared.story.Story.{Story}
use Rattle.qf_inputs.specs.declared.inputs.Inputs.{Inputs}
use Rattle.qf_inputs.specs.declared.opened.Opened.{Opened}

-- any two results of a reading are equal
abbrev pub IsOne : (A : Type 0) → (A → Type 0) → Type 0
IsOne A IsRead = (a b : A) → IsRead a → IsRead b → a ≡ b

abbrev pub LogsAreOne : Type 0
LogsAreOne = (bytes : List ℕ) → IsOne (Result Reading Refusal) (IsLog bytes)

abbrev pub StoriesAreOne : Type 0
StoriesAreOne = (initial log : List ℕ) → IsOne (Result Story Refusal) (IsStory initial log)

abbrev pub InputsAreOne : Type 0
InputsAreOne = (initial log complaints domains : List ℕ) → IsOne (Result Inputs Refusal) (AreInputs initial log complaints domains)

abbrev pub QuestionsAreOne : Type 0
QuestionsAreOne = (initial log complaints domains : List ℕ) → IsOne (Result Opened Refusal) (IsQuestion initial log complaints domains)

-- every table and every log has a story or a first refusal
abbrev pub EachHasAStory : Type 0
EachHasAStory = (initial log : List ℕ) → (story : Result Story Refusal) × IsStory initial log story

-- .. any four files a question or a first refusal
abbrev pub EachHasAQuestion : Type 0
EachHasAQuestion = (initial log complaints domains : List ℕ) → (opened : Result Opened Refusal) × IsQuestion initial log complaints domains opened
