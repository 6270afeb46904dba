-- What a log is cut into: marks, blanks, comments and the pieces that make tokens.
use Rattle.std.specs.Prelude.{◌≡◌, ◌≢◌, ℕ, ◌==◌, ◌||◌, Bool, true, false, not, List, [], ◌∷◌, ◌++◌, if◌then◌else◌, codes}
use Rattle.std.specs.List.{flat_map, list_any}
use Rattle.std.specs.Char.{is_ascii_alphabetic, is_ascii_digit}
use Rattle.std.specs.Str.{str_eq_ignore_ascii_case}
use Rattle.qf_lex.specs.declared.bytes.Class.{Class}
use Rattle.qf_lex.specs.declared.bytes.Class.TheVariants as class
use Rattle.qf_lex.specs.declared.bytes.Run.{Run}
use Rattle.qf_lex.specs.declared.bytes.Run.TheVariants as run
use Rattle.qf_lex.specs.declared.bytes.Before.{Before}
use Rattle.qf_lex.specs.declared.bytes.Before.TheVariants as before

-- what a byte is to the scan
abbrev pub class_of : ℕ → Class
class_of b =
    if (b == 32) || (b == 9) || (b == 13) || (b == 10) then class.Blank
    else if is_ascii_alphabetic b || (b == 95) then class.Letter
    else if is_ascii_digit b then class.Digit
    else if b == 39 then class.Quote
    else if b == 45 then class.Dash
    else if b == 60 then class.Less
    else if b == 62 then class.Greater
    else if b == 61 then class.Equals
    else if b == 33 then class.Bang
    else if (b == 40) || (b == 41) || (b == 44) || (b == 59) || (b == 43) || (b == 42) then class.Plain
    else class.Other

-- a class goes on a word
abbrev pub in_word : Class → Bool
in_word class.Letter = true
in_word class.Digit = true
in_word _ = false

abbrev pub in_digits : Class → Bool
in_digits class.Digit = true
in_digits _ = false

-- whether a byte goes on a run of this kind
abbrev pub goes_on : Run → ℕ → Bool
goes_on run.Word b = in_word (class_of b)
goes_on run.Digits b = in_digits (class_of b)
goes_on run.Line b = not (b == 10)

-- the first byte and the second make one symbol: <>, <=, >=, !=
abbrev pub pairs : Class → Class → Bool
pairs class.Less class.Greater = true
pairs class.Less class.Equals = true
pairs class.Greater class.Equals = true
pairs class.Bang class.Equals = true
pairs _ _ = false

-- a byte that is a symbol by itself
abbrev pub is_symbol : Class → Bool
is_symbol class.Plain = true
is_symbol class.Equals = true
is_symbol class.Less = true
is_symbol class.Greater = true
is_symbol class.Dash = true
is_symbol _ = false

pub data Piece : Type 0 where
  mark : Piece  -- a byte order mark
  blank : ℕ → Piece
  comment : List ℕ → Piece  -- the bytes behind --
  word : List ℕ → Piece
  number : Bool → List ℕ → Piece  -- whether a - is part of it, and the digits
  string : List ℕ → Piece  -- the bytes between the quotes, as they stand
  one : ℕ → Piece  -- a symbol of one byte
  two : ℕ → ℕ → Piece

abbrev pub text_of : Piece → List ℕ
text_of mark = 239 ∷ 187 ∷ 191 ∷ []
text_of (blank b) = b ∷ []
text_of (comment text) = 45 ∷ 45 ∷ text
text_of (word text) = text
text_of (number true digits) = 45 ∷ digits
text_of (number false digits) = digits
text_of (string body) = 39 ∷ (body ++ 39 ∷ [])
text_of (one b) = b ∷ []
text_of (two b c) = b ∷ c ∷ []

abbrev pub spelling : List Piece → List ℕ
spelling ps = flat_map text_of ps

-- two quotes for each quote
abbrev pub doubled : List ℕ → List ℕ
doubled [] = []
doubled (b ∷ bs) = if b == 39 then 39 ∷ 39 ∷ doubled bs else b ∷ doubled bs

-- none of these bytes stands first
abbrev pub Stops : (ℕ → Bool) → List ℕ → Type 0
Stops p [] = Unit {0}
Stops p (b ∷ bs) = p b ≡ false

abbrev pub Each : (ℕ → Bool) → List ℕ → Type 0
Each p [] = Unit {0}
Each p (b ∷ bs) = (p b ≡ true) × Each p bs

-- at least one byte, the first of this class
abbrev pub Starts : Class → List ℕ → Type 0
Starts k [] = ⊥
Starts k (b ∷ bs) = class_of b ≡ k

-- a - that is a symbol: no - follows, and no digit unless a value stands before
abbrev pub StandsAlone : Before → List ℕ → Type 0
StandsAlone b [] = Unit {0}
StandsAlone b (c ∷ cs) = (class_of c ≢ class.Dash) × (class_of c ≡ class.Digit → b ≡ before.Value)

-- a piece may stand between what is before it and the bytes after it; none could go on longer
abbrev pub Fits : Before → Piece → List ℕ → Type 0
Fits b mark after = b ≡ before.Start
Fits b (blank x) after = class_of x ≡ class.Blank
Fits b (comment text) after = Each (goes_on run.Line) text × Stops (goes_on run.Line) after
Fits b (word text) after = Starts class.Letter text × Each (goes_on run.Word) text × Stops (goes_on run.Word) after
Fits b (number true digits) after = Starts class.Digit digits × Each (goes_on run.Digits) digits × Stops (goes_on run.Digits) after × (b ≢ before.Value)
Fits b (number false digits) after = Starts class.Digit digits × Each (goes_on run.Digits) digits × Stops (goes_on run.Digits) after
Fits b (string body) after = ((content : List ℕ) × (body ≡ doubled content)) × Stops (λ c. c == 39) after
Fits b (one x) after = (is_symbol (class_of x) ≡ true) × Stops (λ c. pairs (class_of x) (class_of c)) after × (class_of x ≡ class.Dash → StandsAlone b after)
Fits b (two x y) after = pairs (class_of x) (class_of y) ≡ true

-- the words that are no names
abbrev pub reserved_words : List (List ℕ)
reserved_words =
    codes "update" ∷ codes "set" ∷ codes "where" ∷ codes "delete" ∷ codes "from" ∷ codes "insert" ∷ codes "into" ∷ codes "values"
    ∷ codes "and" ∷ codes "or" ∷ codes "not" ∷ codes "between" ∷ codes "in" ∷ codes "null" ∷ codes "select" ∷ codes "begin"
    ∷ codes "commit" ∷ codes "rollback" ∷ []

-- whether a text is one of them, in small or capital letters
abbrev pub is_reserved : List ℕ → Bool
is_reserved text = list_any (λ w. str_eq_ignore_ascii_case w text) reserved_words

-- what stands before the next piece, after this one
abbrev pub then_before : Before → Piece → Before
then_before b mark = b
then_before before.Start (blank x) = before.Other
then_before b (blank x) = b
then_before before.Start (comment text) = before.Other
then_before b (comment text) = b
then_before b (word text) = if is_reserved text then before.Other else before.Value
then_before b (number minus digits) = before.Value
then_before b (string body) = before.Other
then_before b (one x) = if x == 41 then before.Value else before.Other
then_before b (two x y) = before.Other

abbrev pub before_after : Before → List Piece → Before
before_after b [] = b
before_after b (p ∷ ps) = before_after (then_before b p) ps

-- the pieces stand one after the other, with these bytes after the last
abbrev pub Stand : Before → List Piece → List ℕ → Type 0
Stand b [] after = Unit {0}
Stand b (p ∷ ps) after = Fits b p (spelling ps ++ after) × Stand (then_before b p) ps after

-- the bytes begin with these pieces, and go on with `after`
pub record Begins (bytes : List ℕ) (ps : List Piece) (after : List ℕ) : Type 0 where
  pub whole : bytes ≡ spelling ps ++ after
  pub stand : Stand before.Start ps after
