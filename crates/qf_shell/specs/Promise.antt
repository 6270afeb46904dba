-- What a command promises that reads files and delivers an answer. Its answers are a relation: what may be delivered once these
-- files were read. (An answer that holds a certificate is one thing with it, since certificates are not unique.)
use Rattle.std.specs.Prelude.{◌≡◌, ◌≢◌, ◌⊎◌, ℕ, List, []}
use Rattle.qf_base.specs.Desk.{DeskState, NeverFalls}
use Rattle.qf_base.specs.Refusal.{refusal_bytes}
use Rattle.qf_base.specs.declared.refusal.Refusal.{Refusal}
use Rattle.qf_base.specs.declared.refusal.Kind.TheVariants.{TooLong}
use Rattle.qf_base.specs.declared.status.Status.{Status}
use Rattle.qf_base.specs.declared.status.Status.TheVariants.{Done, Nothing, Budget, Refused, ReadFault, WriteFault, NoMemory, Usage, Rejected}
use Rattle.std.specs.declared.option.Option.TheVariants.{Some, None}
use Rattle.qf_shell.specs.Delivery.{IsDeliveredWhole, IsDeliveredInPart, IsQuiet, AnyWriteRose}
use Rattle.qf_shell.specs.Inputs.{InputWord, AreRead, WereRead, FirstTooLong, AnyReadRose}
use Rattle.qf_shell.specs.declared.answer.Answer.{Answer}

-- what may be answered to these files
abbrev pub Answers : Type 1
Answers = List (List ℕ) → Answer → Type 0

-- the refusal of a file that is too long, by its number
abbrev pub too_long : ℕ → Refusal
too_long number = record { kind = TooLong; first = Some number; second = None }

-- a refusal as an answer: its line, and nothing is put
abbrev pub refusal_answer : Refusal → Answer
refusal_answer refusal = record { status = Refused; files = []; line = refusal_bytes refusal }

-- ---- what is due

-- an answer to the files, once each input was read
pub record AnswerIsDue (inputs : List InputWord) (answers : Answers) (old new : DeskState) (answer : Answer) : Type 0 where
  pub files : List (List ℕ)
  pub read : AreRead old inputs files
  pub were_read : WereRead inputs files old new
  pub is_answer : answers files answer

-- the refusal of the first file that is too long
pub record TooLongIsDue (inputs : List InputWord) (old : DeskState) (answer : Answer) : Type 0 where
  pub number : ℕ
  pub first : FirstTooLong old inputs number
  pub answer_is : answer ≡ refusal_answer (too_long number)

abbrev pub IsDue : List InputWord → Answers → DeskState → DeskState → Answer → Type 0
IsDue inputs answers old new answer = AnswerIsDue inputs answers old new answer ⊎ TooLongIsDue inputs old answer

-- what was due was delivered whole, and its status came
pub record WasDelivered (inputs : List InputWord) (answers : Answers) (old new : DeskState) (status : Status) : Type 0 where
  pub answer : Answer
  pub due : IsDue inputs answers old new answer
  pub status_is : status ≡ answer.status
  pub whole : IsDeliveredWhole answer old new

-- the beginning of what was due was delivered, or nothing
pub record WasDeliveredInPart (inputs : List InputWord) (answers : Answers) (old new : DeskState) : Type 0 where
  pub answer : Answer
  pub due : IsDue inputs answers old new answer
  pub part : IsDeliveredInPart answer old new

-- ---- the promise

-- the statuses that come with an answer
abbrev pub IsAnswered : Status → Type 0
IsAnswered Done = Unit {0}
IsAnswered Nothing = Unit {0}
IsAnswered Budget = Unit {0}
IsAnswered Refused = Unit {0}
IsAnswered Rejected = Unit {0}
IsAnswered ReadFault = ⊥
IsAnswered WriteFault = ⊥
IsAnswered NoMemory = ⊥
IsAnswered Usage = ⊥

-- of a command with these input words and these output words
pub record CommandPromise (inputs : List InputWord) (outputs : List (List ℕ)) (answers : Answers) (old new : DeskState) (status : Status) : Type 0 where
  -- each answer is a right one, and is delivered whole
  pub answered : IsAnswered status → WasDelivered inputs answers old new status
  -- each fault has its cause, and leaves no more than a part of what was due
  pub read_fault : status ≡ ReadFault → AnyReadRose inputs old new
  pub read_fault_part : status ≡ ReadFault → IsQuiet old new
  pub write_fault : status ≡ WriteFault → AnyWriteRose outputs old new
  pub write_fault_part : status ≡ WriteFault → WasDeliveredInPart inputs answers old new
  pub no_memory_part : status ≡ NoMemory → IsQuiet old new ⊎ WasDeliveredInPart inputs answers old new
  pub no_usage : status ≢ Usage
  -- the files stay; the inputs are read in order, each once at most, and nothing else is
  pub held : new.held ≡ old.held
  pub reads : (files : List (List ℕ)) × WereRead inputs files old new
  pub counts : NeverFalls old new
