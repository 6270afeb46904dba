-- What the definitions owe each other.
use Rattle.std.specs.Prelude.{◌≡◌, ℤ, false, List, Some, Ok, filter, ◌↔◌}
use Rattle.std.specs.List.{AllByRecursion, flat_map, list_any}
use Rattle.qf_grammar.specs.declared.tree.Form.{Form}
use Rattle.qf_grammar.specs.declared.judging.Stated.{Stated}
use Rattle.qf_grammar.specs.Spelling.{Lexemes, IsForm}
use Rattle.qf_grammar.specs.Reading.{form_at}
use Rattle.qf_grammar.specs.Usage.{uses_of, is_alike, has_big_factor, use_lexemes, is_atom}
use Rattle.qf_grammar.specs.Statements.{statements_of}

-- a statement is read exactly where it is spelled
abbrev pub FormsAreSpelled : Type 0
FormsAreSpelled = (xs : Lexemes) (f : Form) → (form_at xs ≡ Some f) ↔ IsForm 32 xs f

-- a statement of a log is spelled by a piece of it, and multiplies names by numbers within 1,000,000 alone
pub record IsStated (numbers : List ℤ) (s : Stated) : Type 0 where
  pub piece : Lexemes
  pub spelled : IsForm 32 piece s.form
  pub uses : s.uses ≡ uses_of s.form
  pub linear : list_any is_alike s.uses ≡ false
  pub small : list_any (has_big_factor numbers) s.uses ≡ false

-- the statements that a log gives use its names, texts and numbers in their order
pub record AreStated (numbers : List ℤ) (xs : Lexemes) (all : List Stated) : Type 0 where
  pub each : AllByRecursion (IsStated numbers) all
  pub in_order : flat_map use_lexemes (flat_map (λ (s : Stated). s.uses) all) ≡ filter is_atom xs

abbrev pub StatementsAreStated : Type 0
StatementsAreStated = (numbers : List ℤ) (xs : Lexemes) (all : List Stated) → statements_of numbers xs ≡ Ok all → AreStated numbers xs all
