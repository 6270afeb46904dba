-- The files that a command reads.
use Rattle.std.specs.Prelude.{◌≡◌, ◌⊎◌, ℕ, ◌<◌, ◌≤◌, List, [], ◌∷◌, ◌++◌, length, map, IfSome}
use Rattle.qf_base.specs.Desk.{DeskState, Rose}
use Rattle.qf_shell.specs.declared.files.Input.{Input}

-- a name that is read, its number among the refusals, and the most bytes that may be there
pub record InputWord : Type 0 where
  pub number : ℕ
  pub name : List ℕ
  pub most : ℕ

abbrev pub word_of : Input → InputWord
word_of input = record { number = input.number; name = input.name.now; most = input.most }

abbrev pub words_of : List Input → List InputWord
words_of inputs = map word_of inputs

-- these bytes were read under the name: not too many, and those that the desk tells
pub record IsRead (desk : DeskState) (input : InputWord) (bytes : List ℕ) : Type 0 where
  pub within : length bytes ≤ input.most
  pub told : IfSome (desk.held input.name) (λ held. bytes ≡ held)

abbrev pub AreRead : DeskState → List InputWord → List (List ℕ) → Type 0
AreRead desk [] [] = Unit {0}
AreRead desk [] (bytes ∷ others) = ⊥
AreRead desk (input ∷ inputs) [] = ⊥
AreRead desk (input ∷ inputs) (bytes ∷ others) = IsRead desk input bytes × AreRead desk inputs others

-- the reads of these files under the inputs' names, in their order; fewer files than inputs are those of the first ones
abbrev pub reads_of : List InputWord → List (List ℕ) → List (List ℕ × List ℕ)
reads_of [] files = []
reads_of (input ∷ inputs) [] = []
reads_of (input ∷ inputs) (bytes ∷ files) = (input.name, bytes) ∷ reads_of inputs files

-- the inputs were read as these files, each once, in order, and nothing else was
abbrev pub WereRead : List InputWord → List (List ℕ) → DeskState → DeskState → Type 0
WereRead inputs files old new = new.was_read ≡ old.was_read ++ reads_of inputs files

-- what the desk tells of a name is more than may be there, or not more
abbrev pub IsTooLong : DeskState → InputWord → Type 0
IsTooLong desk input = IfSome (desk.held input.name) (λ held. input.most < length held)

abbrev pub IsNotTooLong : DeskState → InputWord → Type 0
IsNotTooLong desk input = IfSome (desk.held input.name) (λ held. length held ≤ input.most)

-- the first of these files that is too long has this number
abbrev pub FirstTooLong : DeskState → List InputWord → ℕ → Type 0
FirstTooLong desk [] number = ⊥
FirstTooLong desk (input ∷ inputs) number =
    ((number ≡ input.number) × IsTooLong desk input) ⊎ (IsNotTooLong desk input × FirstTooLong desk inputs number)

-- a count of faults of an input rose
abbrev pub AnyReadRose : List InputWord → DeskState → DeskState → Type 0
AnyReadRose [] old new = ⊥
AnyReadRose (input ∷ inputs) old new =
    Rose (old.read_faults input.name) (new.read_faults input.name) ⊎ AnyReadRose inputs old new
