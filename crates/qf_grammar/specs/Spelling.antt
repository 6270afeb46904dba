-- How statements are spelled in lexemes.
use Rattle.std.specs.Prelude.{◌≡◌, ℕ, suc, ◌≤◌, max, Bool, true, false, List, [], ◌∷◌, ◌++◌, Option, Some, None}
use Rattle.std.specs.List.{flat_map}
use Rattle.qf_grammar.specs.declared.lexeme.Lexeme.{Lexeme}
use Rattle.qf_grammar.specs.declared.lexeme.Lexeme.TheVariants as lex
use Rattle.qf_grammar.specs.declared.lexeme.Key.TheVariants as key
use Rattle.qf_grammar.specs.declared.lexeme.Mark.{Mark}
use Rattle.qf_grammar.specs.declared.lexeme.Mark.TheVariants as mark
use Rattle.qf_grammar.specs.declared.tree.Several.{Several}
use Rattle.qf_grammar.specs.declared.tree.Factor.{Factor}
use Rattle.qf_grammar.specs.declared.tree.Factor.TheVariants as factor
use Rattle.qf_grammar.specs.declared.tree.Term.{Term}
use Rattle.qf_grammar.specs.declared.tree.Side.{Side}
use Rattle.qf_grammar.specs.declared.tree.Side.TheVariants as side
use Rattle.qf_grammar.specs.declared.tree.Item.{Item}
use Rattle.qf_grammar.specs.declared.tree.Item.TheVariants as item
use Rattle.qf_grammar.specs.declared.tree.Relation.{Relation}
use Rattle.qf_grammar.specs.declared.tree.Relation.TheVariants as relation
use Rattle.qf_grammar.specs.declared.tree.Compare.{Compare}
use Rattle.qf_grammar.specs.declared.tree.Compare.TheVariants as compare
use Rattle.qf_grammar.specs.declared.tree.Condition.{Condition}
use Rattle.qf_grammar.specs.declared.tree.Condition.TheVariants as condition
use Rattle.qf_grammar.specs.declared.tree.Assign.{Assign}
use Rattle.qf_grammar.specs.declared.tree.Form.{Form}
use Rattle.qf_grammar.specs.declared.tree.Form.TheVariants as form

abbrev pub Lexemes : Type 0
Lexemes = List Lexeme

-- ---- sums

abbrev pub spell_factor : Factor → Lexeme
spell_factor (factor.Number n) = lex.Number n
spell_factor (factor.Name c) = lex.Name c

abbrev pub spell_second : Option Factor → Lexemes
spell_second None = []
spell_second (Some f) = lex.Mark mark.Star ∷ spell_factor f ∷ []

-- a term without its sign
abbrev pub spell_term : Term → Lexemes
spell_term t = spell_factor t.left ∷ spell_second t.right

abbrev pub sign_of : Bool → Mark
sign_of true = mark.Minus
sign_of false = mark.Plus

-- a further term has a sign; the first has one only where it is a minus
abbrev pub spell_next : Term → Lexemes
spell_next t = lex.Mark (sign_of t.minus) ∷ spell_term t

abbrev pub spell_first : Bool → Lexemes
spell_first true = lex.Mark mark.Minus ∷ []
spell_first false = []

abbrev pub spell_sum : Several Term → Lexemes
spell_sum s = spell_first s.first.minus ++ (spell_term s.first ++ flat_map spell_next s.others)

-- ---- comparisons

abbrev pub spell_side : Side → Lexemes
spell_side (side.Sum s) = spell_sum s
spell_side (side.Text t) = lex.Text t ∷ []

abbrev pub spell_item : Item → Lexemes
spell_item (item.Number n) = lex.Number n ∷ []
spell_item (item.Text t) = lex.Text t ∷ []

-- a comma and a part
abbrev pub spell_more : {A : Type 0} → (A → Lexemes) → A → Lexemes
spell_more spell a = lex.Mark mark.Comma ∷ spell a

-- parts with commas between
abbrev pub spell_several : {A : Type 0} → (A → Lexemes) → Several A → Lexemes
spell_several spell s = spell s.first ++ flat_map (spell_more spell) s.others

abbrev pub spell_relation : Relation → Mark
spell_relation relation.Equal = mark.Equal
spell_relation relation.Unequal = mark.Unequal
spell_relation relation.Less = mark.Less
spell_relation relation.LessEqual = mark.LessEqual
spell_relation relation.Greater = mark.Greater
spell_relation relation.GreaterEqual = mark.GreaterEqual

abbrev pub spell_not : Bool → Lexemes
spell_not true = lex.Key key.Not ∷ []
spell_not false = []

-- parts in brackets
abbrev pub spell_tuple : {A : Type 0} → (A → Lexemes) → Several A → Lexemes
spell_tuple spell s = lex.Mark mark.Open ∷ (spell_several spell s ++ lex.Mark mark.Close ∷ [])

abbrev pub spell_compare : Compare → Lexemes
spell_compare (compare.Relate l r m) = spell_side l ++ lex.Mark (spell_relation r) ∷ spell_side m
spell_compare (compare.Between x negated low high) = spell_sum x ++ (spell_not negated ++ (lex.Key key.Between ∷ (spell_sum low ++ lex.Key key.And ∷ spell_sum high)))
spell_compare (compare.Within x negated items) = spell_side x ++ (spell_not negated ++ (lex.Key key.In ∷ spell_tuple spell_item items))

-- ---- conditions: units, chains of AND, chains of OR

mutual
  pub data Unit' : Type 0 where
    negated : Unit' → Unit'
    group : Chain → Unit'
    test : Compare → Unit'

  pub data Conj : Type 0 where
    one_unit : Unit' → Conj
    unit_and : Unit' → Conj → Conj

  pub data Chain : Type 0 where
    one_conj : Conj → Chain
    conj_or : Conj → Chain → Chain

abbrev mutual
  pub spell_unit : Unit' → Lexemes
  spell_unit (negated u) = lex.Key key.Not ∷ spell_unit u
  spell_unit (group c) = lex.Mark mark.Open ∷ (spell_chain c ++ lex.Mark mark.Close ∷ [])
  spell_unit (test t) = spell_compare t

  pub spell_conj : Conj → Lexemes
  spell_conj (one_unit u) = spell_unit u
  spell_conj (unit_and u c) = spell_unit u ++ lex.Key key.And ∷ spell_conj c

  pub spell_chain : Chain → Lexemes
  spell_chain (one_conj c) = spell_conj c
  spell_chain (conj_or c d) = spell_conj c ++ lex.Key key.Or ∷ spell_chain d

-- how deep brackets and NOT nest
abbrev mutual
  pub unit_nests : Unit' → ℕ
  unit_nests (negated u) = suc (unit_nests u)
  unit_nests (group c) = suc (chain_nests c)
  unit_nests (test t) = 0

  pub conj_nests : Conj → ℕ
  conj_nests (one_unit u) = unit_nests u
  conj_nests (unit_and u c) = max (unit_nests u) (conj_nests c)

  pub chain_nests : Chain → ℕ
  chain_nests (one_conj c) = conj_nests c
  chain_nests (conj_or c d) = max (conj_nests c) (chain_nests d)

-- a chain of one is its only part
abbrev pub all_of : List Condition → Condition
all_of (c ∷ []) = c
all_of cs = condition.All cs

abbrev pub any_of : List Condition → Condition
any_of (c ∷ []) = c
any_of cs = condition.Any cs

abbrev mutual
  pub unit_tree : Unit' → Condition
  unit_tree (negated u) = condition.Not (unit_tree u)
  unit_tree (group c) = any_of (chain_trees c)
  unit_tree (test t) = condition.Test t

  pub conj_trees : Conj → List Condition
  conj_trees (one_unit u) = unit_tree u ∷ []
  conj_trees (unit_and u c) = unit_tree u ∷ conj_trees c

  pub chain_trees : Chain → List Condition
  chain_trees (one_conj c) = all_of (conj_trees c) ∷ []
  chain_trees (conj_or c d) = all_of (conj_trees c) ∷ chain_trees d

-- the lexemes are a spelling of the condition, with at most `limit` brackets and NOTs nested in one another
pub record IsCondition (limit : ℕ) (xs : Lexemes) (c : Condition) : Type 0 where
  pub chain : Chain
  pub spelled : xs ≡ spell_chain chain
  pub nests : chain_nests chain ≤ limit
  pub tree : c ≡ any_of (chain_trees chain)

-- ---- statements

abbrev pub spell_assign : Assign → Lexemes
spell_assign a = lex.Name a.column ∷ lex.Mark mark.Equal ∷ spell_side a.value

abbrev pub spell_name : ℕ → Lexemes
spell_name n = lex.Name n ∷ []

abbrev pub spell_columns : Option (Several ℕ) → Lexemes
spell_columns None = []
spell_columns (Some names) = spell_tuple spell_name names

-- the lexemes are WHERE and a spelling of the condition, or none of both
abbrev pub IsFilter : ℕ → Lexemes → Option Condition → Type 0
IsFilter limit xs None = xs ≡ []
IsFilter limit xs (Some c) = (ys : Lexemes) × (xs ≡ lex.Key key.Where ∷ ys) × IsCondition limit ys c

-- the lexemes are a spelling of the statement
abbrev pub IsForm : ℕ → Lexemes → Form → Type 0
IsForm limit xs (form.Update table sets filter) = (ys : Lexemes) × (xs ≡ lex.Key key.Update ∷ lex.Name table ∷ lex.Key key.Set ∷ (spell_several spell_assign sets ++ ys)) × IsFilter limit ys filter
IsForm limit xs (form.Delete table filter) = (ys : Lexemes) × (xs ≡ lex.Key key.Delete ∷ lex.Key key.From ∷ lex.Name table ∷ ys) × IsFilter limit ys filter
IsForm limit xs (form.Insert table columns tuples) =
    xs ≡ lex.Key key.Insert ∷ lex.Key key.Into ∷ lex.Name table ∷ (spell_columns columns ++ lex.Key key.Values ∷ spell_several (spell_tuple spell_item) tuples)
