-- What the tokens of a log say.
use Rattle.std.specs.Prelude.{ℕ, ◌-◌, ◌==◌, ◌&&◌, ℤ, List, [], ◌∷◌, length, slice_range, Option, Some, None, option_map, if◌then◌else◌, codes}
use Rattle.std.specs.Borrow.{Bor}
use Rattle.std.specs.List.{find}
use Rattle.std.specs.Str.{str_eq_ignore_ascii_case, str_to_ascii_lowercase}
use Rattle.qf_lex.specs.declared.token.Token.{Token}
use Rattle.qf_lex.specs.declared.token.TokenKind.{TokenKind}
use Rattle.qf_lex.specs.declared.token.TokenKind.TheVariants as kind
use Rattle.qf_grammar.specs.declared.lexeme.Key.{Key}
use Rattle.qf_grammar.specs.declared.lexeme.Key.TheVariants as keyword
use Rattle.qf_grammar.specs.declared.lexeme.Mark.{Mark}
use Rattle.qf_grammar.specs.declared.lexeme.Mark.TheVariants as symbol

abbrev pub keys : List (List ℕ × Key)
keys =
    (codes "update", keyword.Update) ∷ (codes "set", keyword.Set) ∷ (codes "where", keyword.Where) ∷ (codes "delete", keyword.Delete) ∷ (codes "from", keyword.From)
    ∷ (codes "insert", keyword.Insert) ∷ (codes "into", keyword.Into) ∷ (codes "values", keyword.Values) ∷ (codes "and", keyword.And) ∷ (codes "or", keyword.Or)
    ∷ (codes "not", keyword.Not) ∷ (codes "between", keyword.Between) ∷ (codes "in", keyword.In) ∷ (codes "null", keyword.Null) ∷ (codes "select", keyword.Select)
    ∷ (codes "begin", keyword.Begin) ∷ (codes "commit", keyword.Commit) ∷ (codes "rollback", keyword.Rollback) ∷ []

-- the keyword of the first entry with this word, in small or capital letters
abbrev pub key_in : List (List ℕ × Key) → List ℕ → Option Key
key_in entries word = option_map (λ (e : List ℕ × Key). e.1) (find (λ (e : List ℕ × Key). str_eq_ignore_ascii_case e.0 word) entries)

abbrev pub entry_of : Bor (List ℕ) × Key → List ℕ × Key
entry_of e = (e.0.now, e.1)

-- the keyword that a word is; another word is a name
unfoldable pub key_of : List ℕ → Option Key
key_of word = key_in keys word

-- a symbol of one byte: ( ) , ; = < > + - *
abbrev pub mark_of_one : ℕ → Mark
mark_of_one b =
    if b == 40 then symbol.Open
    else if b == 41 then symbol.Close
    else if b == 44 then symbol.Comma
    else if b == 59 then symbol.Semicolon
    else if b == 61 then symbol.Equal
    else if b == 60 then symbol.Less
    else if b == 62 then symbol.Greater
    else if b == 43 then symbol.Plus
    else if b == 45 then symbol.Minus
    else symbol.Star

-- a symbol of two bytes: <= >= <> !=
abbrev pub mark_of_two : ℕ → ℕ → Mark
mark_of_two b c =
    if (b == 60) && (c == 61) then symbol.LessEqual
    else if (b == 62) && (c == 61) then symbol.GreaterEqual
    else symbol.Unequal

abbrev pub mark_of : List ℕ → Mark
mark_of [] = symbol.Star
mark_of (b ∷ []) = mark_of_one b
mark_of (b ∷ c ∷ bytes) = mark_of_two b c

-- one quote for each two
unfoldable pub single_quoted : List ℕ → List ℕ
single_quoted [] = []
single_quoted (b ∷ []) = b ∷ []
single_quoted (b ∷ c ∷ bytes) = if (b == 39) && (c == 39) then b ∷ single_quoted bytes else b ∷ single_quoted (c ∷ bytes)

-- the first byte of such a text, and what is behind it
abbrev pub next_quoted : List ℕ → Option (ℕ × List ℕ)
next_quoted [] = None
next_quoted (b ∷ []) = Some (b, [])
next_quoted (b ∷ c ∷ bytes) = if (b == 39) && (c == 39) then Some (b, bytes) else Some (b, c ∷ bytes)

-- what a token says: a name has its letters in lower case, a text one quote for each two
pub data Said : Type 0 where
  key : Key → Said
  name : List ℕ → Said
  number : ℤ → Said
  text : List ℕ → Said
  mark : Mark → Said

abbrev pub word_said : List ℕ → Option Key → Said
word_said word None = name (str_to_ascii_lowercase word)
word_said word (Some k) = key k

-- the bytes between the quotes
abbrev pub between_quotes : List ℕ → List ℕ
between_quotes literal = slice_range literal 1 (length literal - 1)

abbrev pub said : List ℕ → TokenKind → Said
said bytes kind.Word = word_said bytes (key_of bytes)
said bytes (kind.Number z) = number z
said bytes kind.Str = text (single_quoted (between_quotes bytes))
said bytes kind.Symbol = mark (mark_of bytes)

-- what a token of these bytes says
abbrev pub said_by : List ℕ → Token → Said
said_by bytes token = said (slice_range bytes token.start token.end) token.kind
