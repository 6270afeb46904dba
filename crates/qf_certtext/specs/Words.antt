-- The line that some words are, word by word.
use Rattle.std.specs.Prelude.{ℕ, ◌-◌, ◌^◌, ◌==◌, Bool, ℤ, pos, neg_ℤ, List, [], ◌∷◌, Option, Some, None, if◌then◌else◌, option_map, option_and_then}
use Rattle.std.specs.List.{slice_split}
use Rattle.std.specs.Str.{bytes_eq}
use lib.Chars.{codes}
use Rattle.qf_base.specs.declared.names.Bound.{Bound}
use Rattle.qf_base.specs.declared.names.Bound.TheVariants.{Low, High}
use Rattle.qf_base.specs.declared.names.RowName.{RowName}
use Rattle.qf_base.specs.declared.names.RowName.TheVariants.{Start, Inserted}
use Rattle.qf_csv.specs.Numerals.{count_of, is_plain, numeral_within}
use Rattle.qf_tree.specs.declared.cert.Answer.{Answer}
use Rattle.qf_tree.specs.declared.cert.Answer.TheVariants.{Repair, Nothing, Budget, Best}
use Rattle.qf_tree.specs.declared.line.Line.{Line}
use Rattle.qf_tree.specs.declared.line.Line.TheVariants as line

abbrev pub is_space : ℕ → Bool
is_space byte = byte == 32

-- the words between single spaces
abbrev pub words_of : List ℕ → List (List ℕ)
words_of bytes = slice_split is_space bytes

-- no words, or those of the bytes
abbrev pub words_behind : Option (List ℕ) → List (List ℕ)
words_behind None = []
words_behind (Some bytes) = words_of bytes

-- ---- numbers and names

-- a plain numeral within these
abbrev pub plain_within : ℤ → ℤ → List ℕ → Option ℤ
plain_within least most word = if is_plain word then numeral_within least most word else None

-- a plain numeral that fits 64 bits with a sign
abbrev pub value_of_word : List ℕ → Option ℤ
value_of_word word = plain_within (neg_ℤ (pos (2 ^ 63))) (pos (2 ^ 63 - 1)) word

-- a plain numeral within 2^60
abbrev pub end_of_word : List ℕ → Option ℤ
end_of_word word = plain_within (neg_ℤ (pos (2 ^ 60))) (pos (2 ^ 60)) word

-- `p` and a count
abbrev pub param_of_word : List ℕ → Option ℕ
param_of_word [] = None
param_of_word (first ∷ digits) = if first == 112 then count_of digits else None

-- `r` or `i` and a count
abbrev pub row_of_word : List ℕ → Option RowName
row_of_word [] = None
row_of_word (first ∷ digits) =
    if first == 114 then option_map Start (count_of digits)
    else (if first == 105 then option_map Inserted (count_of digits) else None)

-- ---- lines

abbrev pub bare_line : List ℕ → Option Line
bare_line word =
    if bytes_eq word (codes "empty") then Some line.Empty
    else (if bytes_eq word (codes "dear") then Some line.Dear
    else (if bytes_eq word (codes "open") then Some line.Open
    else (if bytes_eq word (codes "end") then Some line.End else None)))

abbrev pub short_line : List ℕ → List ℕ → Option Line
short_line kind word =
    if bytes_eq kind (codes "qfix-cert") then (if bytes_eq word (codes "1") then Some line.Head else None)
    else (if bytes_eq kind (codes "refuted") then option_map line.Refuted (row_of_word word)
    else (if bytes_eq kind (codes "case") then option_map line.Case (count_of word) else None))

abbrev pub split_line : List ℕ → List ℕ → List ℕ → Option Line
split_line param cut row =
    option_and_then (λ k. option_and_then (λ c. option_map (λ r. line.Split k c r) (row_of_word row)) (value_of_word cut)) (param_of_word param)

abbrev pub bound_line : (ℤ → Bound) → List ℕ → List ℕ → List ℕ → Option Line
bound_line side inequality var stated =
    option_and_then (λ n. option_and_then (λ v. option_map (λ z. line.Tight n v (side z)) (end_of_word stated)) (count_of var)) (count_of inequality)

abbrev pub long_line : List ℕ → List ℕ → List ℕ → List ℕ → Option Line
long_line kind first second third =
    if bytes_eq kind (codes "split") then split_line first second third
    else (if bytes_eq kind (codes "ge") then bound_line Low first second third
    else (if bytes_eq kind (codes "le") then bound_line High first second third else None))

abbrev pub numbered_line : List ℕ → List (List ℕ) → Option Line
numbered_line kind (word ∷ []) = short_line kind word
numbered_line kind (first ∷ second ∷ third ∷ []) = long_line kind first second third
numbered_line kind _ = None

-- a value of each word
abbrev pub values_of_words : List (List ℕ) → Option (List ℤ)
values_of_words [] = Some []
values_of_words (word ∷ words) =
    option_and_then (λ z. option_map (λ (zs : List ℤ). z ∷ zs) (values_of_words words)) (value_of_word word)

abbrev pub bare_answer : List ℕ → List (List ℕ) → Option Answer
bare_answer kind [] =
    if bytes_eq kind (codes "none") then Some Nothing else (if bytes_eq kind (codes "budget") then Some Budget else None)
bare_answer kind (word ∷ words) = None

abbrev pub answer_of_words : List ℕ → List (List ℕ) → Option Answer
answer_of_words kind words =
    if bytes_eq kind (codes "repair") then option_map Repair (values_of_words words)
    else (if bytes_eq kind (codes "best") then option_map Best (values_of_words words) else bare_answer kind words)

abbrev pub answer_behind : List (List ℕ) → Option Answer
answer_behind [] = None
answer_behind (kind ∷ words) = answer_of_words kind words

abbrev pub line_behind : List ℕ → List (List ℕ) → Option Line
line_behind kind words =
    if bytes_eq kind (codes "answer") then option_map line.Answer (answer_behind words) else numbered_line kind words

-- the line that the words are
abbrev pub line_of_words : List (List ℕ) → Option Line
line_of_words [] = None
line_of_words (word ∷ []) = bare_line word
line_of_words (kind ∷ word ∷ words) = line_behind kind (word ∷ words)
