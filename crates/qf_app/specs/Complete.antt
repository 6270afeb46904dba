-- What a run comes to, whichever way it went about it, where the desk tells its files, no count of faults rose, and memory was not
-- wanting: the status is fixed by the files.
use Rattle.std.specs.Prelude.{◌≡◌, ◌≢◌, ◌⊎◌, ◌↔◌, ℕ, ◌+◌, ◌*◌, ◌≤◌, ℤ, List, [], ◌∷◌, Ok, Err}
use Rattle.std.specs.declared.option.Option.{Option}
use Rattle.std.specs.declared.option.Option.TheVariants.{Some, None}
use Rattle.qf_base.specs.Desk.{DeskState}
use Rattle.qf_base.specs.declared.refusal.Refusal.{Refusal}
use Rattle.qf_base.specs.declared.status.Status.{Status}
use Rattle.qf_base.specs.declared.status.Status.TheVariants.{Done, Nothing, Budget, Refused, NoMemory, Rejected}
use Rattle.qf_base.specs.Values.{In}
use Rattle.qf_goal.specs.Case.{Case, Mends, HasNoRepair}
use Rattle.qf_inputs.specs.Opened.{IsQuestion}
use Rattle.qf_inputs.specs.Story.{IsStory}
use Rattle.qf_inputs.specs.declared.opened.Opened.{Opened}
use Rattle.qf_inputs.specs.declared.story.Story.{Story}
use Rattle.qf_point.specs.Points.{point_count}
use Rattle.qf_shell.specs.Completeness.{AreTold, AreShort, NoFaultRose, IsAnsweredBy}
use Rattle.qf_shell.specs.Inputs.{FirstTooLong}
use Rattle.qf_shell.specs.Promise.{refusal_answer, too_long}
use Rattle.qf_app.specs.Answers.{IsReplayed}
use Rattle.qf_app.specs.Checking.{IsProof}
use Rattle.qf_app.specs.Request.{Diagnosis, Request, diagnose, check, replay, params, input_words, output_words, request_of}

-- the desk tells these files, no count of faults rose, and memory was not wanting
pub record IsPlainRun (request : Request) (files : List (List ℕ)) (old new : DeskState) (status : Status) : Type 0 where
  pub told : AreTold old (input_words request) files
  pub no_fault : NoFaultRose (input_words request) (output_words request) old new
  pub memory : status ≢ NoMemory

-- ---- refusals

-- the first refusal of files none of which is too long
abbrev pub FilesAreRefused : Request → List (List ℕ) → Refusal → Type 0
FilesAreRefused (diagnose d) (initial ∷ log ∷ complaints ∷ domains ∷ []) refusal = IsQuestion initial log complaints domains (Err refusal)
FilesAreRefused (check c) (initial ∷ log ∷ complaints ∷ domains ∷ certificate ∷ []) refusal = IsQuestion initial log complaints domains (Err refusal)
FilesAreRefused (replay s) (initial ∷ log ∷ []) refusal = IsReplayed initial log (Err refusal)
FilesAreRefused (params s) (initial ∷ log ∷ []) refusal = IsStory initial log (Err refusal)
FilesAreRefused request files refusal = ⊥

-- the first file that is too long, and where there is none, the first refusal of what the files say
abbrev pub IsFirstRefusal : Request → List (List ℕ) → DeskState → Refusal → Type 0
IsFirstRefusal request files desk refusal =
    ((number : ℕ) × FirstTooLong desk (input_words request) number × (refusal ≡ too_long number))
    ⊎ (AreShort (input_words request) files × FilesAreRefused request files refusal)

-- ---- the statuses of what is accepted

-- some point of the domains repairs
abbrev pub HasRepair : Case → Type 0
HasRepair case = (point : List ℤ) × In case.domains.region point × Mends case point

-- Status 0 only where there is a repair, and 1 only where there is none; where the budget was too small, 2, which can't be where it
-- is at least twice the number of the root box's points less one.
pub record DiagnosisTells (words : Diagnosis) (opened : Opened) (status : Status) : Type 0 where
  pub repair : status ≡ Done → HasRepair opened.problem
  pub none : status ≡ Nothing → HasNoRepair opened.problem
  pub found : HasRepair opened.problem → (status ≡ Done) ⊎ (status ≡ Budget)
  pub not_found : HasNoRepair opened.problem → (status ≡ Nothing) ⊎ (status ≡ Budget)
  pub suffices : 2 * point_count opened.root ≤ words.budget + 1 → status ≢ Budget

-- as said for `diagnose`; 0 exactly where the certificate is a proof, 8 exactly where it is none
abbrev pub StatusTells : Request → List (List ℕ) → Status → Type 0
StatusTells (diagnose d) (initial ∷ log ∷ complaints ∷ domains ∷ []) status =
    (opened : Opened) → IsQuestion initial log complaints domains (Ok opened) → DiagnosisTells d opened status
StatusTells (check c) (initial ∷ log ∷ complaints ∷ domains ∷ certificate ∷ []) status =
    (opened : Opened) → IsQuestion initial log complaints domains (Ok opened)
    → ((status ≡ Done) ↔ IsProof opened.problem certificate) × ((status ≡ Rejected) ↔ (IsProof opened.problem certificate → ⊥))
StatusTells (replay s) (initial ∷ log ∷ []) status = (story : Story) → IsReplayed initial log (Ok story) → status ≡ Done
StatusTells (params s) (initial ∷ log ∷ []) status = (story : Story) → IsStory initial log (Ok story) → status ≡ Done
StatusTells request files status = ⊥

-- ---- the clause

pub record IsComplete (request : Request) (old new : DeskState) (status : Status) : Type 0 where
  -- the first refusal is delivered, and status 3 comes with nothing else
  pub refused : (files : List (List ℕ)) → IsPlainRun request files old new status
      → (refusal : Refusal) → IsFirstRefusal request files old refusal → IsAnsweredBy (refusal_answer refusal) old new status
  pub refused_only : (files : List (List ℕ)) → IsPlainRun request files old new status
      → status ≡ Refused → (refusal : Refusal) × IsFirstRefusal request files old refusal
  -- what is accepted has the status that the files call for
  pub accepted : (files : List (List ℕ)) → IsPlainRun request files old new status
      → AreShort (input_words request) files → StatusTells request files status

abbrev pub IsCompleteFor : Option Request → DeskState → DeskState → Status → Type 0
IsCompleteFor None old new status = Unit {0}
IsCompleteFor (Some request) old new status = IsComplete request old new status

-- of the command that the words give
abbrev pub RunIsComplete : List (List ℕ) → DeskState → DeskState → Status → Type 0
RunIsComplete words old new status = IsCompleteFor (request_of words) old new status
