-- What a scan of a log gives: its tokens, or its first fault.
use Rattle.std.specs.Prelude.{◌≡◌, ℕ, ◌≤◌, ◌<◌, ◌+◌, ◌*◌, ◌-◌, ◌^◌, ◌==◌, ◌⊎◌, Bool, true, false, ℤ, pos, neg_ℤ, List, [], ◌∷◌, ◌++◌, length, drop, slice_range, if◌then◌else◌, fold, IsUtf8, Option, Some, None, option_map, option_to_list}
use Rattle.std.specs.List.{AllByRecursion}
use Rattle.std.specs.Str.{IsValidUpTo}
use Rattle.qf_lex.specs.declared.bytes.Before.{Before}
use Rattle.qf_lex.specs.declared.bytes.Before.TheVariants as before
use Rattle.qf_lex.specs.declared.token.Token.{Token}
use Rattle.qf_lex.specs.declared.token.TokenKind.{TokenKind}
use Rattle.qf_lex.specs.declared.token.TokenKind.TheVariants as kind
use Rattle.qf_lex.specs.declared.token.LexFault.{LexFault}
use Rattle.qf_lex.specs.declared.token.LexFault.TheVariants as fault
use Rattle.qf_lex.specs.Pieces.{Piece, mark, blank, comment, word, number, string, one, two, text_of, spelling, Fits, Begins, before_after}

-- the number that these digits write
abbrev pub value_of : List ℕ → ℕ
value_of digits = fold (λ v d. 10 * v + (d - 48)) 0 digits

abbrev pub signed : Bool → ℕ → ℤ
signed true n = neg_ℤ (pos n)
signed false n = pos n

-- what kind of token a piece makes, if it makes one
abbrev pub kind_of : Piece → Option TokenKind
kind_of mark = None
kind_of (blank b) = None
kind_of (comment text) = None
kind_of (word text) = Some kind.Word
kind_of (number minus digits) = Some (kind.Number (signed minus (value_of digits)))
kind_of (string body) = Some kind.Str
kind_of (one b) = Some kind.Symbol
kind_of (two b c) = Some kind.Symbol

abbrev pub token_at : ℕ → Piece → List Token
token_at at p = option_to_list (option_map (λ k. record { start = at; end = at + length (text_of p); kind = k }) (kind_of p))

abbrev pub tokens_from : ℕ → List Piece → List Token
tokens_from at [] = []
tokens_from at (p ∷ ps) = token_at at p ++ tokens_from (at + length (text_of p)) ps

-- a number within 2^50, a text between quotes
abbrev pub IsSound : Piece → Type 0
IsSound (number minus digits) = value_of digits ≤ 2 ^ 50
IsSound (string body) = IsUtf8 body
IsSound _ = Unit {0}

-- what is wrong with a piece that stands at this offset
abbrev pub FaultIn : ℕ → Piece → LexFault → Type 0
FaultIn at (number minus digits) f = (2 ^ 50 < value_of digits) × (f ≡ fault.NumberTooBig at)
FaultIn at (string body) f = (n : ℕ) × IsValidUpTo body n × (f ≡ fault.BadByte (at + 1 + n))
FaultIn at _ f = ⊥

-- a byte at which no piece begins: a quote opens a string that nothing closes
abbrev pub FaultOf : ℕ → List ℕ → LexFault → Type 0
FaultOf at [] f = ⊥
FaultOf at (b ∷ bytes) f = f ≡ (if b == 39 then fault.OpenString at else fault.BadByte at)

-- no piece fits at the front of the bytes
pub record Stuck (b : Before) (at : ℕ) (bytes : List ℕ) (f : LexFault) : Type 0 where
  pub none : (p : Piece) (after : List ℕ) → bytes ≡ text_of p ++ after → Fits b p after → ⊥
  pub fault : FaultOf at bytes f

-- a piece at the front that is not sound
pub record Unsound (b : Before) (at : ℕ) (bytes : List ℕ) (f : LexFault) : Type 0 where
  pub piece : Piece
  pub after : List ℕ
  pub parts : bytes ≡ text_of piece ++ after
  pub fits : Fits b piece after
  pub fault : FaultIn at piece f

-- these are the tokens of the bytes: sound pieces spell the whole of them
pub record TokensOf (bytes : List ℕ) (tokens : List Token) : Type 0 where
  pub pieces : List Piece
  pub begins : Begins bytes pieces []
  pub sound : AllByRecursion IsSound pieces
  pub tokens_are : tokens ≡ tokens_from 0 pieces

-- this is the first fault of the bytes: sound pieces spell them as far as it
pub record FirstFaultOf (bytes : List ℕ) (f : LexFault) : Type 0 where
  pub pieces : List Piece
  pub after : List ℕ
  pub begins : Begins bytes pieces after
  pub sound : AllByRecursion IsSound pieces
  pub here : Unsound (before_after before.Start pieces) (length (spelling pieces)) after f ⊎ Stuck (before_after before.Start pieces) (length (spelling pieces)) after f

-- no token begins before the end of the one before it, nor the first one before `from`
abbrev pub AreInOrder : ℕ → List Token → Type 0
AreInOrder from [] = Unit {0}
AreInOrder from (t ∷ ts) = (from ≤ t.start) × AreInOrder t.end ts

-- a token as it stands in the bytes: its slice of them is a sound piece of its kind
pub record StandsIn (bytes : List ℕ) (token : Token) : Type 0 where
  pub some : token.start < token.end
  pub within : token.end ≤ length bytes
  pub piece : Piece
  pub before : Before
  pub text : slice_range bytes token.start token.end ≡ text_of piece
  pub fits : Fits before piece (drop token.end bytes)
  pub sound : IsSound piece
  pub kind : kind_of piece ≡ Some token.kind
