-- What the promise of a command comes to where the desk tells its files and no fault rose: the status and what was put and said
-- follow from the files alone, but for want of memory.
use Rattle.std.specs.Prelude.{◌≡◌, ◌⊎◌, ℕ, ◌≤◌, List, [], ◌∷◌, length}
use Rattle.std.specs.declared.option.Option.TheVariants.{Some}
use Rattle.qf_base.specs.Desk.{DeskState}
use Rattle.qf_base.specs.declared.status.Status.{Status}
use Rattle.qf_base.specs.declared.status.Status.TheVariants.{NoMemory}
use Rattle.qf_shell.specs.Delivery.{IsDeliveredWhole, AnyWriteRose}
use Rattle.qf_shell.specs.Inputs.{InputWord, FirstTooLong, AnyReadRose}
use Rattle.qf_shell.specs.Promise.{Answers, CommandPromise, refusal_answer, too_long}
use Rattle.qf_shell.specs.declared.answer.Answer.{Answer}

-- the desk tells these bytes of the files
abbrev pub AreTold : DeskState → List InputWord → List (List ℕ) → Type 0
AreTold desk [] [] = Unit {0}
AreTold desk [] (bytes ∷ others) = ⊥
AreTold desk (input ∷ inputs) [] = ⊥
AreTold desk (input ∷ inputs) (bytes ∷ others) = (desk.held input.name ≡ Some bytes) × AreTold desk inputs others

-- no file is longer than its limit
abbrev pub AreShort : List InputWord → List (List ℕ) → Type 0
AreShort [] files = Unit {0}
AreShort (input ∷ inputs) [] = Unit {0}
AreShort (input ∷ inputs) (bytes ∷ files) = (length bytes ≤ input.most) × AreShort inputs files

-- no count of faults of this run rose
pub record NoFaultRose (inputs : List InputWord) (outputs : List (List ℕ)) (old new : DeskState) : Type 0 where
  pub reads : AnyReadRose inputs old new → ⊥
  pub writes : AnyWriteRose outputs old new → ⊥

-- the answer was delivered, with its status
pub record IsAnsweredBy (answer : Answer) (old new : DeskState) (status : Status) : Type 0 where
  pub status_is : status ≡ answer.status
  pub whole : IsDeliveredWhole answer old new

-- an answer to these files was delivered
pub record AnswersFiles (answers : Answers) (files : List (List ℕ)) (old new : DeskState) (status : Status) : Type 0 where
  pub answer : Answer
  pub is_answer : answers files answer
  pub delivered : IsAnsweredBy answer old new status

-- files that are told and short have an answer
abbrev pub FilesAreAnswered : List InputWord → List (List ℕ) → Answers → Type 0
FilesAreAnswered inputs outputs answers =
    (old new : DeskState) (status : Status) (files : List (List ℕ))
    → AreTold old inputs files → AreShort inputs files → NoFaultRose inputs outputs old new
    → CommandPromise inputs outputs answers old new status
    → AnswersFiles answers files old new status ⊎ (status ≡ NoMemory)

-- the first file that is too long is refused
abbrev pub LongFilesAreRefused : List InputWord → List (List ℕ) → Answers → Type 0
LongFilesAreRefused inputs outputs answers =
    (old new : DeskState) (status : Status) (files : List (List ℕ)) (number : ℕ)
    → AreTold old inputs files → FirstTooLong old inputs number → NoFaultRose inputs outputs old new
    → CommandPromise inputs outputs answers old new status
    → IsAnsweredBy (refusal_answer (too_long number)) old new status ⊎ (status ≡ NoMemory)
