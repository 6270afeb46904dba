-- How a certificate is spelled: ASCII lines, each ended by a line feed, of words parted by single spaces. Numbers are plain
-- numerals.
use Rattle.std.specs.Prelude.{◌≡◌, ℕ, ℤ, List, [], ◌∷◌, ◌++◌, map, IsTrue}
use Rattle.std.specs.List.{flat_map, join_with_byte}
use Rattle.std.specs.Fmt.{decimal, signed_decimal}
use lib.Chars.{codes}
use Rattle.qf_base.specs.declared.names.Bound.{Bound}
use Rattle.qf_base.specs.declared.names.Bound.TheVariants.{Low, High}
use Rattle.qf_base.specs.declared.names.RowName.{RowName}
use Rattle.qf_base.specs.declared.names.RowName.TheVariants.{Start, Inserted}
use Rattle.qf_tree.specs.declared.cert.Answer.{Answer}
use Rattle.qf_tree.specs.declared.cert.Answer.TheVariants.{Repair, Nothing, Budget, Best}
use Rattle.qf_tree.specs.declared.cert.Cert.{Cert}
use Rattle.qf_tree.specs.declared.line.Line.{Line}
use Rattle.qf_tree.specs.declared.line.Line.TheVariants as line
use Rattle.qf_tree.specs.Lines.{line_fits, cert_lines}

-- `r` or `i`, and the number
abbrev pub row_word : RowName → List ℕ
row_word (Start n) = 114 ∷ decimal n
row_word (Inserted n) = 105 ∷ decimal n

abbrev pub answer_words : Answer → List (List ℕ)
answer_words (Repair p) = codes "repair" ∷ map signed_decimal p
answer_words Nothing = codes "none" ∷ []
answer_words Budget = codes "budget" ∷ []
answer_words (Best p) = codes "best" ∷ map signed_decimal p

-- a bound's side and its number
abbrev pub bound_parts : Bound → List ℕ × ℤ
bound_parts (Low least) = (codes "ge", least)
bound_parts (High most) = (codes "le", most)

abbrev pub bound_words : ℕ → ℕ → Bound → List (List ℕ)
bound_words inequality var bound =
    (bound_parts bound).0 ∷ decimal inequality ∷ decimal var ∷ signed_decimal (bound_parts bound).1 ∷ []

abbrev pub line_words : Line → List (List ℕ)
line_words line.Head = codes "qfix-cert" ∷ codes "1" ∷ []
line_words (line.Answer answer) = codes "answer" ∷ answer_words answer
line_words (line.Split param cut row) = codes "split" ∷ (112 ∷ decimal param) ∷ signed_decimal cut ∷ row_word row ∷ []
line_words (line.Refuted row) = codes "refuted" ∷ row_word row ∷ []
line_words (line.Tight inequality var bound) = bound_words inequality var bound
line_words line.Empty = codes "empty" ∷ []
line_words (line.Case var) = codes "case" ∷ decimal var ∷ []
line_words line.Dear = codes "dear" ∷ []
line_words line.Open = codes "open" ∷ []
line_words line.End = codes "end" ∷ []

-- the words with single spaces between them
abbrev pub line_text : Line → List ℕ
line_text line = join_with_byte 32 (line_words line)

-- the bytes are the spelling of the line, whose numbers are in their ranges
pub record Spells (line : Line) (bytes : List ℕ) : Type 0 where
  pub fits : IsTrue (line_fits line)
  pub text : bytes ≡ line_text line

-- the line with its line feed
abbrev pub line_bytes : Line → List ℕ
line_bytes line = line_text line ++ 10 ∷ []

abbrev pub bytes_of_lines : List Line → List ℕ
bytes_of_lines lines = flat_map line_bytes lines

-- a space and the numeral of each value
abbrev pub value_text : ℤ → List ℕ
value_text z = 32 ∷ signed_decimal z

abbrev pub value_texts : List ℤ → List ℕ
value_texts zs = flat_map value_text zs

-- a line of words and values
abbrev pub stated_bytes : List ℕ → List ℤ → List ℕ
stated_bytes words values = words ++ (value_texts values ++ 10 ∷ [])

-- the text of a certificate
abbrev pub spelling : Cert → List ℕ
spelling cert = bytes_of_lines (cert_lines cert)
