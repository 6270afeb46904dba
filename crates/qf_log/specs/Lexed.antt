-- What a log's tokens say, with names, texts and numbers by their numbers.
use Rattle.std.specs.Prelude.{ℕ, ◌+◌, ◌<◌, ℤ, List, [], ◌∷◌, ◌++◌, length, fold}
use Rattle.std.specs.List.{flat_map}
use Rattle.qf_ir.specs.Texts.{code_in, with_text}
use Rattle.qf_grammar.specs.declared.lexeme.Lexeme.{Lexeme}
use Rattle.qf_grammar.specs.declared.lexeme.Lexeme.TheVariants as lex
use Rattle.qf_grammar.specs.Spelling.{Lexemes}
use Rattle.qf_log.specs.declared.lexing.Lexed.{Lexed}
use Rattle.qf_log.specs.Said.{Said, key, name, number, text, mark}

abbrev pub with_name : List (List ℕ) → Said → List (List ℕ)
with_name names (name n) = with_text names n
with_name names _ = names

abbrev pub with_string : List (List ℕ) → Said → List (List ℕ)
with_string texts (text t) = with_text texts t
with_string texts _ = texts

-- the distinct names in the order in which they are first said
abbrev pub names_of : List Said → List (List ℕ)
names_of saids = fold with_name [] saids

-- the distinct texts in the order in which they are first said
abbrev pub texts_of : List Said → List (List ℕ)
texts_of saids = fold with_string [] saids

abbrev pub number_in : Said → List ℤ
number_in (number z) = z ∷ []
number_in _ = []

abbrev pub numbers_of : List Said → List ℤ
numbers_of saids = flat_map number_in saids

-- names and texts by their places in these lists; a number by how many stand before it
abbrev pub lexeme_of : List (List ℕ) → List (List ℕ) → ℕ → Said → Lexeme
lexeme_of names texts k (key x) = lex.Key x
lexeme_of names texts k (name n) = lex.Name (code_in names n)
lexeme_of names texts k (number z) = lex.Number k
lexeme_of names texts k (text t) = lex.Text (code_in texts t)
lexeme_of names texts k (mark m) = lex.Mark m

abbrev pub lexemes_from : List (List ℕ) → List (List ℕ) → ℕ → List Said → Lexemes
lexemes_from names texts k [] = []
lexemes_from names texts k (s ∷ saids) = lexeme_of names texts k s ∷ lexemes_from names texts (k + length (number_in s)) saids

abbrev pub lexed_of : List Said → Lexed
lexed_of saids = record {
  names = names_of saids;
  texts = texts_of saids;
  numbers = numbers_of saids;
  lexemes = lexemes_from (names_of saids) (texts_of saids) 0 saids;
}

abbrev pub with_number : List ℤ → Said → List ℤ
with_number numbers (number z) = numbers ++ z ∷ []
with_number numbers _ = numbers

-- one more token said
abbrev pub with_said : Lexed → Said → Lexed
with_said l s = record {
  names = with_name l.names s;
  texts = with_string l.texts s;
  numbers = with_number l.numbers s;
  lexemes = l.lexemes ++ lexeme_of l.names l.texts (length l.numbers) s ∷ [];
}

abbrev pub nothing_said : Lexed
nothing_said = record { names = []; texts = []; numbers = []; lexemes = [] }

-- no list of names, texts or numbers is longer than this
pub record HasFew (n : ℕ) (l : Lexed) : Type 0 where
  pub names : length l.names < n
  pub texts : length l.texts < n
  pub numbers : length l.numbers < n
