-- What was read is what the desk tells, so one answer is left.
use Rattle.std.proofs.Common.{◌≡◌, ◌⊎◌, ℕ, ◌<◌, ◌≤◌, true, false, nat_le, List, [], ◌∷◌, length, Option, Some, IfSome, inl, inr, refl, ⊎_elim, sym, ◌∙◌, ap, subst, arith}
use Rattle.std.proofs.lemmas.Bool.Decides.{nat_tests}
use Rattle.qf_base.specs.Desk.{DeskState}
use Rattle.qf_base.specs.declared.status.Status.{Status}
use Rattle.qf_base.specs.declared.status.Status.TheVariants.{Done, Nothing, Budget, Refused, ReadFault, WriteFault, NoMemory, Usage, Rejected}
use Rattle.qf_shell.specs.Inputs.{InputWord, IsRead, AreRead, IsTooLong, IsNotTooLong, FirstTooLong}
use Rattle.qf_shell.specs.Promise.{Answers, IsDue, WasDelivered, refusal_answer, too_long}
use Rattle.qf_shell.specs.Completeness.{AreTold, AreShort, IsAnsweredBy, AnswersFiles, FilesAreAnswered, LongFilesAreRefused}
use Rattle.qf_shell.specs.declared.answer.Answer.{Answer}

-- what was read under a name is what the desk tells
told_is_read : (desk : DeskState) (input : InputWord) (bytes held : List ℕ) → desk.held input.name ≡ Some held → IsRead desk input bytes → bytes ≡ held
told_is_read desk input bytes held told read = subst (λ (o : Option (List ℕ)). IfSome o (λ h. bytes ≡ h)) told read.told

pub told_were_read : (desk : DeskState) (inputs : List InputWord) (files other : List (List ℕ)) → AreTold desk inputs files → AreRead desk inputs other → other ≡ files
told_were_read desk [] [] [] told read = refl
told_were_read desk [] [] (o ∷ other) told read = absurd read
told_were_read desk [] (f ∷ files) other told read = absurd told
told_were_read desk (i ∷ inputs) [] other told read = absurd told
told_were_read desk (i ∷ inputs) (f ∷ files) [] told read = absurd read
told_were_read desk (i ∷ inputs) (f ∷ files) (o ∷ other) told read =
    let one : o ≡ f = told_is_read desk i o f told.0 read.0 in
    let more : other ≡ files = told_were_read desk inputs files other told.1 read.1 in
    λ k. one k ∷ more k

told_length : (desk : DeskState) (input : InputWord) (held : List ℕ) → desk.held input.name ≡ Some held → IsTooLong desk input → input.most < length held
told_length desk input held told long = subst (λ (o : Option (List ℕ)). IfSome o (λ bytes. input.most < length bytes)) told long

told_fits : (desk : DeskState) (input : InputWord) (held : List ℕ) → desk.held input.name ≡ Some held → IsNotTooLong desk input → length held ≤ input.most
told_fits desk input held told short = subst (λ (o : Option (List ℕ)). IfSome o (λ bytes. length bytes ≤ input.most)) told short

-- of files that are told one is too long, or they are short
pub long_or_short : (desk : DeskState) (inputs : List InputWord) (files : List (List ℕ)) → AreTold desk inputs files → ((number : ℕ) × FirstTooLong desk inputs number) ⊎ AreShort inputs files
long_or_short desk [] files told = inr tt
long_or_short desk (i ∷ inputs) [] told = absurd told
long_or_short desk (i ∷ inputs) (f ∷ files) told =
    elim (nat_le (length f) i.most) as (λ b. nat_le (length f) i.most ≡ b → ((number : ℕ) × FirstTooLong desk (i ∷ inputs) number) ⊎ AreShort (i ∷ inputs) (f ∷ files)) [
      | true ↦ λ fits.
          let le : length f ≤ i.most = grind (arith, nat_tests) in
          let short : IsNotTooLong desk i = subst (λ (o : Option (List ℕ)). IfSome o (λ bytes. length bytes ≤ i.most)) (sym told.0) le in
          ⊎_elim (λ long. inl (long.0, inr (short, long.1))) (λ others. inr (le, others)) (long_or_short desk inputs files told.1)
      | false ↦ λ not_so.
          let lt : i.most < length f = grind (arith, nat_tests) in
          let long : IsTooLong desk i = subst (λ (o : Option (List ℕ)). IfSome o (λ bytes. i.most < length bytes)) (sym told.0) lt in
          inl (i.number, inl (refl, long))
    ] refl

-- none of short files is too long
pub none_too_long : (desk : DeskState) (inputs : List InputWord) (files : List (List ℕ)) (number : ℕ) → AreTold desk inputs files → AreShort inputs files → FirstTooLong desk inputs number → ⊥
none_too_long desk [] files number told short long = long
none_too_long desk (i ∷ inputs) [] number told short long = told
none_too_long desk (i ∷ inputs) (f ∷ files) number told short (inl here) =
    let h : i.most < length f = told_length desk i f told.0 here.1 in
    omega (arith, h, short.0)
none_too_long desk (i ∷ inputs) (f ∷ files) number told short (inr behind) = none_too_long desk inputs files number told.1 short.1 behind.1

-- an answer that is due is due by the files
due_by_files : (inputs : List InputWord) (answers : Answers) (old new : DeskState) (files : List (List ℕ)) (answer : Answer)
    → AreTold old inputs files → AreShort inputs files → IsDue inputs answers old new answer → answers files answer
due_by_files inputs answers old new files answer told short (inl due) =
    subst (λ (f : List (List ℕ)). answers f answer) (told_were_read old inputs files due.files told due.read) due.is_answer
due_by_files inputs answers old new files answer told short (inr due) = absurd (none_too_long old inputs files due.number told short due.first)

answered_by_files : (inputs : List InputWord) (answers : Answers) (old new : DeskState) (status : Status) (files : List (List ℕ))
    → AreTold old inputs files → AreShort inputs files → WasDelivered inputs answers old new status → AnswersFiles answers files old new status
answered_by_files inputs answers old new status files told short was = record {
  answer = was.answer;
  is_answer = due_by_files inputs answers old new files was.answer told short was.due;
  delivered = record { status_is = was.status_is; whole = was.whole };
}

pub answered : (inputs : List InputWord) (outputs : List (List ℕ)) (answers : Answers) → FilesAreAnswered inputs outputs answers
answered inputs outputs answers old new Done files told short quiet promise = inl (answered_by_files inputs answers old new Done files told short (promise.answered tt))
answered inputs outputs answers old new Nothing files told short quiet promise = inl (answered_by_files inputs answers old new Nothing files told short (promise.answered tt))
answered inputs outputs answers old new Budget files told short quiet promise = inl (answered_by_files inputs answers old new Budget files told short (promise.answered tt))
answered inputs outputs answers old new Refused files told short quiet promise = inl (answered_by_files inputs answers old new Refused files told short (promise.answered tt))
answered inputs outputs answers old new Rejected files told short quiet promise = inl (answered_by_files inputs answers old new Rejected files told short (promise.answered tt))
answered inputs outputs answers old new ReadFault files told short quiet promise = absurd (quiet.reads (promise.read_fault refl))
answered inputs outputs answers old new WriteFault files told short quiet promise = absurd (quiet.writes (promise.write_fault refl))
answered inputs outputs answers old new NoMemory files told short quiet promise = inr refl
answered inputs outputs answers old new Usage files told short quiet promise = absurd (promise.no_usage refl)

-- ---- files that are too long

-- of files that were read none is too long
read_not_long : (desk : DeskState) (inputs : List InputWord) (files other : List (List ℕ)) (number : ℕ) → AreTold desk inputs files → AreRead desk inputs other → FirstTooLong desk inputs number → ⊥
read_not_long desk [] files other number told read long = long
read_not_long desk (i ∷ inputs) [] other number told read long = told
read_not_long desk (i ∷ inputs) (f ∷ files) [] number told read long = read
read_not_long desk (i ∷ inputs) (f ∷ files) (o ∷ other) number told read (inl here) =
    let h : i.most < length f = told_length desk i f told.0 here.1 in
    let e : length o ≡ length f = ap length (told_is_read desk i o f told.0 read.0) in
    omega (arith, h, e, read.0.within)
read_not_long desk (i ∷ inputs) (f ∷ files) (o ∷ other) number told read (inr behind) = read_not_long desk inputs files other number told.1 read.1 behind.1

-- the first of the files that is too long has one number
one_number : (desk : DeskState) (inputs : List InputWord) (files : List (List ℕ)) (a b : ℕ) → AreTold desk inputs files → FirstTooLong desk inputs a → FirstTooLong desk inputs b → a ≡ b
one_number desk [] files a b told h k = absurd h
one_number desk (i ∷ inputs) [] a b told h k = absurd told
one_number desk (i ∷ inputs) (f ∷ files) a b told (inl h) (inl k) = h.0 ∙ sym k.0
one_number desk (i ∷ inputs) (f ∷ files) a b told (inl h) (inr k) =
    let l : i.most < length f = told_length desk i f told.0 h.1 in
    let s : length f ≤ i.most = told_fits desk i f told.0 k.0 in
    absurd (omega (arith, l, s))
one_number desk (i ∷ inputs) (f ∷ files) a b told (inr h) (inl k) =
    let l : i.most < length f = told_length desk i f told.0 k.1 in
    let s : length f ≤ i.most = told_fits desk i f told.0 h.0 in
    absurd (omega (arith, l, s))
one_number desk (i ∷ inputs) (f ∷ files) a b told (inr h) (inr k) = one_number desk inputs files a b told.1 h.1 k.1

-- with a file that is too long, its refusal is due
long_due : (inputs : List InputWord) (answers : Answers) (old new : DeskState) (files : List (List ℕ)) (number : ℕ)
    → AreTold old inputs files → FirstTooLong old inputs number → (answer : Answer) → IsDue inputs answers old new answer → answer ≡ refusal_answer (too_long number)
long_due inputs answers old new files number told first answer (inl due) = absurd (read_not_long old inputs files due.files number told due.read first)
long_due inputs answers old new files number told first answer (inr due) =
    due.answer_is ∙ ap (λ (n : ℕ). refusal_answer (too_long n)) (one_number old inputs files due.number number told due.first first)

was_long : (inputs : List InputWord) (answers : Answers) (old new : DeskState) (status : Status) (files : List (List ℕ)) (number : ℕ)
    → AreTold old inputs files → FirstTooLong old inputs number → WasDelivered inputs answers old new status → IsAnsweredBy (refusal_answer (too_long number)) old new status
was_long inputs answers old new status files number told first was =
    subst (λ (a : Answer). IsAnsweredBy a old new status) (long_due inputs answers old new files number told first was.answer was.due)
    (record { status_is = was.status_is; whole = was.whole })

pub long_refused : (inputs : List InputWord) (outputs : List (List ℕ)) (answers : Answers) → LongFilesAreRefused inputs outputs answers
long_refused inputs outputs answers old new Done files number told first quiet promise = inl (was_long inputs answers old new Done files number told first (promise.answered tt))
long_refused inputs outputs answers old new Nothing files number told first quiet promise = inl (was_long inputs answers old new Nothing files number told first (promise.answered tt))
long_refused inputs outputs answers old new Budget files number told first quiet promise = inl (was_long inputs answers old new Budget files number told first (promise.answered tt))
long_refused inputs outputs answers old new Refused files number told first quiet promise = inl (was_long inputs answers old new Refused files number told first (promise.answered tt))
long_refused inputs outputs answers old new Rejected files number told first quiet promise = inl (was_long inputs answers old new Rejected files number told first (promise.answered tt))
long_refused inputs outputs answers old new ReadFault files number told first quiet promise = absurd (quiet.reads (promise.read_fault refl))
long_refused inputs outputs answers old new WriteFault files number told first quiet promise = absurd (quiet.writes (promise.write_fault refl))
long_refused inputs outputs answers old new NoMemory files number told first quiet promise = inr refl
long_refused inputs outputs answers old new Usage files number told first quiet promise = absurd (promise.no_usage refl)
