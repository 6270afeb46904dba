-- From what was read and delivered to what a command promises.
use Rattle.std.proofs.Common.{◌≡◌, ℕ, ◌-◌, List, [], ◌∷◌, take, Option, Result, Err, inl, inr, refl, ⊎_elim, sym, ◌∙◌, ap, subst, arith}
use Rattle.qf_base.specs.Desk.{DeskState, NeverFalls, with_more}
use Rattle.qf_base.specs.declared.status.Status.{Status}
use Rattle.qf_base.specs.declared.status.Status.TheVariants as status
use Rattle.qf_shell.specs.Delivery.{put_part, put_size, stream_size, IsDelivered, IsQuiet, AnyPutRose, AnyWriteRose, names_of, put_names, Delivers}
use Rattle.qf_shell.specs.Ends.{DeliversEnd}
use Rattle.qf_shell.specs.Inputs.{InputWord, WereRead, FirstTooLong, AnyReadRose}
use Rattle.qf_shell.specs.Promise.{Answers, IsDue, IsAnswered, CommandPromise, refusal_answer, too_long}
use Rattle.qf_shell.specs.declared.answer.Answer.{Answer}
use Rattle.qf_shell.specs.declared.files.ReadEnd.{ReadEnd}
use Rattle.qf_shell.specs.declared.files.ReadEnd.TheVariants.{TooLong, Failed, NoMemory}
use Rattle.qf_shell.proofs.Putting.{rose_from}

-- what calls leave that only read inputs
pub record OnlyRead (inputs : List InputWord) (old new : DeskState) : Type 0 where
  pub held : new.held ≡ old.held
  pub quiet : IsQuiet old new
  pub reads : (files : List (List ℕ)) × WereRead inputs files old new
  pub counts : NeverFalls old new

pub never_falls : (old mid new : DeskState) → NeverFalls old mid → NeverFalls mid new → NeverFalls old new
never_falls old mid new h k = record {
  reads = λ name. omega (arith, h.reads name, k.reads name);
  puts = λ name. omega (arith, h.puts name, k.puts name);
  says = omega (arith, h.says, k.says);
}

pub quiet_twice : (old mid new : DeskState) → IsQuiet old mid → IsQuiet mid new → IsQuiet old new
quiet_twice old mid new h k = record { made = λ name. k.made name ∙ h.made name; said = k.said ∙ h.said }

puts_from : (names : List (List ℕ)) (old mid new : DeskState) → NeverFalls old mid → AnyPutRose names mid new → AnyPutRose names old new
puts_from [] old mid new fell rose = rose
puts_from (name ∷ names) old mid new fell (inl here) = inl (rose_from (old.put_faults name) (mid.put_faults name) (new.put_faults name) (fell.puts name) here)
puts_from (name ∷ names) old mid new fell (inr behind) = inr (puts_from names old mid new fell behind)

writes_from : (names : List (List ℕ)) (old mid new : DeskState) → NeverFalls old mid → AnyWriteRose names mid new → AnyWriteRose names old new
writes_from names old mid new fell (inl here) = inl (rose_from old.say_faults mid.say_faults new.say_faults fell.says here)
writes_from names old mid new fell (inr puts) = inr (puts_from names old mid new fell puts)

-- what was delivered after quiet calls was delivered
after_quiet : (n : ℕ) (answer : Answer) (old mid new : DeskState) → IsQuiet old mid → IsDelivered n answer mid new → IsDelivered n answer old new
after_quiet n answer old mid new quiet part = record {
  made = λ name. part.made name ∙ ap (λ (o : Option (List ℕ)). with_more o (put_part n answer.files name)) (quiet.made name);
  said = part.said ∙ ap (λ (o : Option (List ℕ)). with_more o (take (n - put_size answer.files) answer.line)) quiet.said;
}

-- an answer's status is none of a fault
not_fault : (s other : Status) → IsAnswered s → (IsAnswered other → ⊥) → s ≡ other → ⊥
not_fault s other h not_so same = not_so (subst IsAnswered same h)

-- ---- what is due stays so

reads_after : (inputs : List InputWord) (files : List (List ℕ)) (old mid new : DeskState) → WereRead inputs files old mid → new.was_read ≡ mid.was_read → WereRead inputs files old new
reads_after inputs files old mid new read same = same ∙ read

due_after : (inputs : List InputWord) (answers : Answers) (old mid new : DeskState) (answer : Answer) → IsDue inputs answers old mid answer → new.was_read ≡ mid.was_read → IsDue inputs answers old new answer
due_after inputs answers old mid new answer (inl due) same =
    inl (record { files = due.files; read = due.read; were_read = reads_after inputs due.files old mid new due.were_read same; is_answer = due.is_answer })
due_after inputs answers old mid new answer (inr due) same = inr due

-- ---- an answer was delivered, whole or in part, after calls that only read

pub promised : (inputs : List InputWord) (outputs : List (List ℕ)) (answers : Answers) (old mid new : DeskState) (answer : Answer) (result : Status)
    → IsAnswered answer.status → IsDue inputs answers old mid answer → (AnyWriteRose (put_names answer) mid new → AnyWriteRose outputs mid new)
    → OnlyRead inputs old mid → Delivers answer mid new result → CommandPromise inputs outputs answers old new result
promised inputs outputs answers old mid new answer result answered due_then within before delivers =
    let fell = never_falls old mid new before.counts delivers.counts in
    let held : new.held ≡ old.held = delivers.held ∙ before.held in
    let due = due_after inputs answers old mid new answer due_then delivers.was_read in
    let reads : (files : List (List ℕ)) × WereRead inputs files old new = (before.reads.0, reads_after inputs before.reads.0 old mid new before.reads.1 delivers.was_read) in
    ⊎_elim
    (λ whole.
    let no : (other : Status) → (IsAnswered other → ⊥) → result ≡ other → ⊥ = λ other e same. not_fault answer.status other answered e (sym whole.0 ∙ same) in
    record {
      answered = λ h. record { answer = answer; due = due; status_is = whole.0; whole = after_quiet (stream_size answer) answer old mid new before.quiet whole.1 };
      read_fault = λ e. absurd (no status.ReadFault (λ h. h) e);
      read_fault_part = λ e. absurd (no status.ReadFault (λ h. h) e);
      write_fault = λ e. absurd (no status.WriteFault (λ h. h) e);
      write_fault_part = λ e. absurd (no status.WriteFault (λ h. h) e);
      no_memory_part = λ e. absurd (no status.NoMemory (λ h. h) e);
      no_usage = no status.Usage (λ h. h);
      held = held;
      reads = reads;
      counts = fell;
    })
    (λ faults. ⊎_elim
    (λ write. record {
      answered = λ h. absurd (subst IsAnswered write.0 h);
      read_fault = λ e. absurd (cc);
      read_fault_part = λ e. absurd (cc);
      write_fault = λ e. writes_from outputs old mid new before.counts (within write.1);
      write_fault_part = λ e. record { answer = answer; due = due; part = (write.2.0, after_quiet write.2.0 answer old mid new before.quiet write.2.1) };
      no_memory_part = λ e. absurd (cc);
      no_usage = λ e. cc;
      held = held;
      reads = reads;
      counts = fell;
    })
    (λ memory. record {
      answered = λ h. absurd (subst IsAnswered memory.0 h);
      read_fault = λ e. absurd (cc);
      read_fault_part = λ e. absurd (cc);
      write_fault = λ e. absurd (cc);
      write_fault_part = λ e. absurd (cc);
      no_memory_part = λ e. inr (record { answer = answer; due = due; part = (memory.1.0, after_quiet memory.1.0 answer old mid new before.quiet memory.1.1) });
      no_usage = λ e. cc;
      held = held;
      reads = reads;
      counts = fell;
    }) faults)
    delivers.result_is

-- a fault of reading, before anything was delivered
pub read_failed : (inputs : List InputWord) (outputs : List (List ℕ)) (answers : Answers) (old new : DeskState)
    → AnyReadRose inputs old new → OnlyRead inputs old new → CommandPromise inputs outputs answers old new status.ReadFault
read_failed inputs outputs answers old new rose before = record {
  answered = λ h. absurd h;
  read_fault = λ e. rose;
  read_fault_part = λ e. before.quiet;
  write_fault = λ e. absurd (cc);
  write_fault_part = λ e. absurd (cc);
  no_memory_part = λ e. absurd (cc);
  no_usage = λ e. cc;
  held = before.held;
  reads = before.reads;
  counts = before.counts;
}

-- want of memory, before anything was delivered
pub wants_memory : (inputs : List InputWord) (outputs : List (List ℕ)) (answers : Answers) (old new : DeskState)
    → OnlyRead inputs old new → CommandPromise inputs outputs answers old new status.NoMemory
wants_memory inputs outputs answers old new before = record {
  answered = λ h. absurd h;
  read_fault = λ e. absurd (cc);
  read_fault_part = λ e. absurd (cc);
  write_fault = λ e. absurd (cc);
  write_fault_part = λ e. absurd (cc);
  no_memory_part = λ e. inl before.quiet;
  no_usage = λ e. cc;
  held = before.held;
  reads = before.reads;
  counts = before.counts;
}

-- ---- a reading that ended

quiet_with : (inputs : List InputWord) (outputs : List (List ℕ)) (answers : Answers) (old mid new : DeskState) (wanted result : Status)
    → result ≡ wanted → new ≡ mid → CommandPromise inputs outputs answers old mid wanted → CommandPromise inputs outputs answers old new result
quiet_with inputs outputs answers old mid new wanted result status_is stays promise =
    subst (λ (s : Status). CommandPromise inputs outputs answers old new s) (sym status_is)
    (subst (λ (d : DeskState). CommandPromise inputs outputs answers old d wanted) (sym stays) promise)

-- a refusal puts nothing
pub puts_nothing : (outputs : List (List ℕ)) (answer : Answer) (old new : DeskState) → answer.files ≡ [] → AnyWriteRose (put_names answer) old new → AnyWriteRose outputs old new
puts_nothing outputs answer old new none (inl says) = inl says
puts_nothing outputs answer old new none (inr puts) = absurd (subst (λ (files : List (List ℕ × List ℕ)). AnyPutRose (names_of files) old new) none puts)

pub ended : (inputs : List InputWord) (outputs : List (List ℕ)) (answers : Answers) (old mid new : DeskState) (end : ReadEnd) (result : Status)
    → ((n : ℕ) → end ≡ TooLong n → FirstTooLong old inputs n) → (end ≡ Failed → AnyReadRose inputs old mid)
    → OnlyRead inputs old mid → DeliversEnd end mid new result → CommandPromise inputs outputs answers old new result
ended inputs outputs answers old mid new (TooLong n) result first rose before (inl delivers) =
    promised inputs outputs answers old mid new (refusal_answer (too_long n)) result tt
    (inr (record { number = n; first = first n refl; answer_is = refl }))
    (puts_nothing outputs (refusal_answer (too_long n)) mid new refl) before delivers
ended inputs outputs answers old mid new (TooLong n) result first rose before (inr still) =
    quiet_with inputs outputs answers old mid new status.NoMemory result still.0 still.1 (wants_memory inputs outputs answers old mid before)
ended inputs outputs answers old mid new Failed result first rose before still =
    quiet_with inputs outputs answers old mid new status.ReadFault result still.0 still.1 (read_failed inputs outputs answers old mid (rose refl) before)
ended inputs outputs answers old mid new NoMemory result first rose before still =
    quiet_with inputs outputs answers old mid new status.NoMemory result still.0 still.1 (wants_memory inputs outputs answers old mid before)

pub err_is : {T : Type 0} (a b : ReadEnd) → a ≡ b → ◌≡◌ {A = Result T ReadEnd} (Err a) (Err b)
err_is a b same = cc
