-- What a statement names and multiplies, in the order of its text.
use Rattle.std.specs.Prelude.{ℕ, nat_lt, ℤ, unsigned_abs, Bool, true, false, List, [], ◌∷◌, ◌++◌, Option, Some, None, option_map, option_and_then, option_to_list, slice_get, if◌then◌else◌}
use Rattle.std.specs.List.{flat_map}
use Rattle.qf_grammar.specs.declared.lexeme.Lexeme.{Lexeme}
use Rattle.qf_grammar.specs.declared.lexeme.Lexeme.TheVariants as lex
use Rattle.qf_grammar.specs.declared.tree.Several.{Several}
use Rattle.qf_grammar.specs.declared.tree.Factor.{Factor}
use Rattle.qf_grammar.specs.declared.tree.Factor.TheVariants as factor
use Rattle.qf_grammar.specs.declared.tree.Term.{Term}
use Rattle.qf_grammar.specs.declared.tree.Side.{Side}
use Rattle.qf_grammar.specs.declared.tree.Side.TheVariants as side
use Rattle.qf_grammar.specs.declared.tree.Item.{Item}
use Rattle.qf_grammar.specs.declared.tree.Item.TheVariants as item
use Rattle.qf_grammar.specs.declared.tree.Compare.{Compare}
use Rattle.qf_grammar.specs.declared.tree.Compare.TheVariants as compare
use Rattle.qf_grammar.specs.declared.tree.Condition.{Condition, Row_of-Condition, end_of-Condition, more_of-Condition}
use Rattle.qf_grammar.specs.declared.tree.Condition.TheVariants.{Test, All', Any', Not'}
use Rattle.qf_grammar.specs.declared.tree.Assign.{Assign}
use Rattle.qf_grammar.specs.declared.tree.Form.{Form}
use Rattle.qf_grammar.specs.declared.tree.Form.TheVariants as form
use Rattle.qf_grammar.specs.declared.uses.Use.{Use}
use Rattle.qf_grammar.specs.declared.uses.Use.TheVariants as used
use Rattle.qf_grammar.specs.Spelling.{Lexemes}
use Rattle.qf_grammar.specs.Reading.{Reader, one_at, factor_of, is_star, behind}

-- ---- of a statement

abbrev pub factor_use : Factor → Use
factor_use (factor.Number n) = used.Number n
factor_use (factor.Name c) = used.Name c

abbrev pub product_use : Factor → Option Factor → Use
product_use l None = factor_use l
product_use l (Some r) = used.Product l r

abbrev pub term_uses : Term → List Use
term_uses t = product_use t.left t.right ∷ []

abbrev pub several_uses : {A : Type 0} → (A → List Use) → Several A → List Use
several_uses uses s = uses s.first ++ flat_map uses s.others

abbrev pub side_uses : Side → List Use
side_uses (side.Sum s) = several_uses term_uses s
side_uses (side.Text t) = used.Text t ∷ []

abbrev pub item_uses : Item → List Use
item_uses (item.Number n) = used.Number n ∷ []
item_uses (item.Text t) = used.Text t ∷ []

abbrev pub compare_uses : Compare → List Use
compare_uses (compare.Relate l r m) = side_uses l ++ side_uses m
compare_uses (compare.Between x negated low high) = several_uses term_uses x ++ (several_uses term_uses low ++ several_uses term_uses high)
compare_uses (compare.Within x negated items) = side_uses x ++ several_uses item_uses items

abbrev mutual
  pub condition_uses : Condition → List Use
  condition_uses (Test c) = compare_uses c
  condition_uses (All' shape parts) = parts_uses parts
  condition_uses (Any' shape parts) = parts_uses parts
  condition_uses (Not' shape part) = parts_uses part

  pub parts_uses : {m : _} → Row_of-Condition m → List Use
  parts_uses end_of-Condition = []
  parts_uses (more_of-Condition part rest) = condition_uses part ++ parts_uses rest

abbrev pub filter_uses : Option Condition → List Use
filter_uses None = []
filter_uses (Some c) = condition_uses c

abbrev pub name_uses : ℕ → List Use
name_uses n = used.Name n ∷ []

abbrev pub assign_uses : Assign → List Use
assign_uses a = used.Name a.column ∷ side_uses a.value

abbrev pub columns_uses : Option (Several ℕ) → List Use
columns_uses None = []
columns_uses (Some names) = several_uses name_uses names

abbrev pub uses_of : Form → List Use
uses_of (form.Update table sets filter) = used.Name table ∷ (several_uses assign_uses sets ++ filter_uses filter)
uses_of (form.Delete table filter) = used.Name table ∷ filter_uses filter
uses_of (form.Insert table columns tuples) = used.Name table ∷ (columns_uses columns ++ several_uses (several_uses item_uses) tuples)

-- ---- what is no product of a name and a number

abbrev pub is_alike : Use → Bool
is_alike (used.Product (factor.Number m) (factor.Number n)) = true
is_alike (used.Product (factor.Name c) (factor.Name d)) = true
is_alike _ = false

abbrev pub is_past : Option ℤ → Bool
is_past None = false
is_past (Some z) = nat_lt 1000000 (unsigned_abs z)

-- the number at this place is past 1,000,000 in size
abbrev pub is_big : List ℤ → ℕ → Bool
is_big numbers n = is_past (slice_get numbers n)

abbrev pub has_big_factor : List ℤ → Use → Bool
has_big_factor numbers (used.Product (factor.Number n) (factor.Name c)) = is_big numbers n
has_big_factor numbers (used.Product (factor.Name c) (factor.Number n)) = is_big numbers n
has_big_factor numbers _ = false

-- ---- of lexemes: a product takes three of them

abbrev pub single : Lexeme → Option Use
single (lex.Name c) = Some (used.Name c)
single (lex.Text t) = Some (used.Text t)
single (lex.Number n) = Some (used.Number n)
single _ = None

abbrev pub product_at : Reader (Factor × Factor)
product_at xs = option_and_then (λ l. option_and_then (λ rest. option_map (λ r. ((l.0, r.0), r.1)) (one_at factor_of rest)) (behind is_star l.1)) (one_at factor_of xs)

abbrev pub use_or : Option ((Factor × Factor) × Lexemes) → Lexemes → Option (Option Use × Lexemes)
use_or (Some p) xs = Some (Some (used.Product p.0.0 p.0.1), p.1)
use_or None [] = None
use_or None (x ∷ xs) = Some (single x, xs)

-- the product or the single lexeme at the front
abbrev pub use_at : Lexemes → Option (Option Use × Lexemes)
use_at xs = use_or (product_at xs) xs

abbrev pub both : Option Factor → Option Factor → Option (Factor × Factor)
both (Some l) (Some r) = Some (l, r)
both _ _ = None

abbrev pub product_of : Lexeme → Lexeme → Lexeme → Option (Factor × Factor)
product_of x y z = if is_star y then both (factor_of x) (factor_of z) else None

abbrev pub product_or : Lexeme → Option (Factor × Factor) → List Use → List Use → List Use
product_or x None next after = option_to_list (single x) ++ next
product_or x (Some p) next after = used.Product p.0 p.1 ∷ after

unfoldable pub uses_in : Lexemes → List Use
uses_in [] = []
uses_in (x ∷ []) = option_to_list (single x) ++ []
uses_in (x ∷ y ∷ []) = option_to_list (single x) ++ uses_in (y ∷ [])
uses_in (x ∷ y ∷ z ∷ xs) = product_or x (product_of x y z) (uses_in (y ∷ z ∷ xs)) (uses_in xs)

-- ---- what a use is made of

abbrev pub factor_lexeme : Factor → Lexeme
factor_lexeme (factor.Number n) = lex.Number n
factor_lexeme (factor.Name c) = lex.Name c

abbrev pub use_lexemes : Use → Lexemes
use_lexemes (used.Name c) = lex.Name c ∷ []
use_lexemes (used.Text t) = lex.Text t ∷ []
use_lexemes (used.Number n) = lex.Number n ∷ []
use_lexemes (used.Product l r) = factor_lexeme l ∷ factor_lexeme r ∷ []

-- a name, a text or a number
abbrev pub is_atom : Lexeme → Bool
is_atom (lex.Name c) = true
is_atom (lex.Text t) = true
is_atom (lex.Number n) = true
is_atom _ = false
