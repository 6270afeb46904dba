-- What answers the reading of the files answers the files.
use Rattle.std.proofs.Common.{ℕ, List, Result, Ok, Err, refl}
use Rattle.std.specs.Prelude.{IfOk}
use Rattle.qf_base.specs.declared.refusal.Refusal.{Refusal}
use Rattle.qf_inputs.specs.Opened.{IsQuestion}
use Rattle.qf_inputs.specs.Story.{IsStory}
use Rattle.qf_inputs.specs.declared.opened.Opened.{Opened}
use Rattle.qf_inputs.specs.declared.story.Story.{Story}
use Rattle.qf_shell.specs.declared.answer.Answer.{Answer}
use Rattle.qf_app.specs.Answers.{or_refused, IsDiagnosis, IsCheck, if_narrow, IsFinalTable, IsTable, AreItsParameters, AreParameters}
use Rattle.qf_app.specs.Checking.{IsChecked}
use Rattle.qf_app.specs.Finding.{IsFound}
use Rattle.qf_app.specs.Request.{Diagnosis}

pub diagnosis_is : {E : Type 0} (words : Diagnosis) (initial log complaints domains : List ℕ) (read : Result Opened Refusal) (result : Result Answer E)
    → IsQuestion initial log complaints domains read → IfOk result (or_refused (IsFound words log) read) → IfOk result (IsDiagnosis words initial log complaints domains)
diagnosis_is words initial log complaints domains read (Err e) question answer = tt
diagnosis_is words initial log complaints domains read (Ok a) question answer = record { opened = read; question = question; answer_is = answer }

pub check_is : {E : Type 0} (initial log complaints domains certificate : List ℕ) (read : Result Opened Refusal) (result : Result Answer E)
    → IsQuestion initial log complaints domains read → IfOk result (or_refused (λ (o : Opened). IsChecked o.problem certificate) read)
    → IfOk result (IsCheck initial log complaints domains certificate)
check_is initial log complaints domains certificate read (Err e) question answer = tt
check_is initial log complaints domains certificate read (Ok a) question answer = record { opened = read; is_question = question; answer_is = answer }

pub table_is : {E : Type 0} (initial log : List ℕ) (story : Result Story Refusal) (result : Result Answer E)
    → IsStory initial log story → IfOk result (or_refused IsFinalTable (if_narrow story)) → IfOk result (IsTable initial log)
table_is initial log story (Err e) is answer = tt
table_is initial log story (Ok a) is answer = record {
  replayed = if_narrow story;
  is_replayed = record { story = story; story_is = is; replayed_is = refl };
  answer_is = answer;
}

pub parameters_are : {E : Type 0} (initial log : List ℕ) (story : Result Story Refusal) (result : Result Answer E)
    → IsStory initial log story → IfOk result (or_refused AreItsParameters story) → IfOk result (AreParameters initial log)
parameters_are initial log story (Err e) is answer = tt
parameters_are initial log story (Ok a) is answer = record { story = story; is_story = is; answer_is = answer }
