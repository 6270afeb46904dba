-- What an answer is, and how much of it was delivered: its files are put in order, then its line is said.
use Rattle.std.specs.Prelude.{◌≡◌, ◌⊎◌, ℕ, ◌+◌, ◌-◌, List, [], ◌∷◌, ◌++◌, length, map, take, if◌then◌else◌}
use Rattle.std.specs.Str.{bytes_eq}
use Rattle.qf_base.specs.Desk.{DeskState, Rose, NeverFalls, with_more}
use Rattle.qf_base.specs.declared.status.Status.{Status}
use Rattle.qf_base.specs.declared.status.Status.TheVariants.{WriteFault, NoMemory}
use Rattle.qf_shell.specs.declared.answer.Answer.{Answer}

-- how many bytes the files have
abbrev pub put_size : List (List ℕ × List ℕ) → ℕ
put_size [] = 0
put_size (file ∷ files) = length file.1 + put_size files

-- how many bytes the whole stream has: the files one after another, then the line
abbrev pub stream_size : Answer → ℕ
stream_size answer = put_size answer.files + length answer.line

-- of the first n bytes of the files, those that belong to a name
abbrev pub put_part : ℕ → List (List ℕ × List ℕ) → List ℕ → List ℕ
put_part n [] name = []
put_part n (file ∷ files) name =
    (if bytes_eq file.0 name then take n file.1 else []) ++ put_part (n - length file.1) files name

-- the first n bytes of the files were put, each under its name, and nothing else was
abbrev pub ArePut : ℕ → List (List ℕ × List ℕ) → DeskState → DeskState → Type 0
ArePut n files old new = (name : List ℕ) → new.made name ≡ with_more (old.made name) (put_part n files name)

-- The first n bytes of the stream were delivered, and nothing else: so the line is only begun where each file is whole, and
-- what was put under any other name stays.
pub record IsDelivered (n : ℕ) (answer : Answer) (old new : DeskState) : Type 0 where
  pub made : ArePut n answer.files old new
  pub said : new.said ≡ with_more old.said (take (n - put_size answer.files) answer.line)

-- all of it was
abbrev pub IsDeliveredWhole : Answer → DeskState → DeskState → Type 0
IsDeliveredWhole answer old new = IsDelivered (stream_size answer) answer old new

-- some of it, or nothing, was
abbrev pub IsDeliveredInPart : Answer → DeskState → DeskState → Type 0
IsDeliveredInPart answer old new = (n : ℕ) × IsDelivered n answer old new

-- nothing was put or said
pub record IsQuiet (old new : DeskState) : Type 0 where
  pub made : (name : List ℕ) → new.made name ≡ old.made name
  pub said : new.said ≡ old.said

-- ---- counts of faults

-- a count of what is put under one of the names rose
abbrev pub AnyPutRose : List (List ℕ) → DeskState → DeskState → Type 0
AnyPutRose [] old new = ⊥
AnyPutRose (name ∷ names) old new = Rose (old.put_faults name) (new.put_faults name) ⊎ AnyPutRose names old new

-- .. or that of saying
abbrev pub AnyWriteRose : List (List ℕ) → DeskState → DeskState → Type 0
AnyWriteRose names old new = Rose old.say_faults new.say_faults ⊎ AnyPutRose names old new

-- the names of files
abbrev pub names_of : List (List ℕ × List ℕ) → List (List ℕ)
names_of files = map (λ (file : List ℕ × List ℕ). file.0) files

-- .. and those of an answer's
abbrev pub put_names : Answer → List (List ℕ)
put_names answer = names_of answer.files

-- ---- a call that delivers

-- Its status comes with the whole answer. A fault of writing has its cause, and as want of memory leaves no more than the
-- beginning.
pub record Delivers (answer : Answer) (old new : DeskState) (result : Status) : Type 0 where
  pub result_is :
      ((result ≡ answer.status) × IsDeliveredWhole answer old new)
      ⊎ ((result ≡ WriteFault) × AnyWriteRose (put_names answer) old new × IsDeliveredInPart answer old new)
      ⊎ ((result ≡ NoMemory) × IsDeliveredInPart answer old new)
  pub held : new.held ≡ old.held
  pub was_read : new.was_read ≡ old.was_read
  pub counts : NeverFalls old new
