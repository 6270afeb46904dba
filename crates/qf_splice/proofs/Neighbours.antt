-- In the statements of a log no number stands directly behind a name, a number or a closing bracket.
use Rattle.std.proofs.Common.{◌≡◌, ℕ, ◌+◌, Bool, true, false, cond, List, [], ◌∷◌, ◌++◌, refl, sym, subst, Option, Some, None, Result, Ok, Err}
use Rattle.std.specs.Prelude.{ℤ}
use Rattle.std.specs.List.{AllByRecursion, flat_map}
use Rattle.qf_grammar.specs.declared.lexeme.Lexeme.{Lexeme}
use Rattle.qf_grammar.specs.declared.lexeme.Lexeme.TheVariants as lex
use Rattle.qf_grammar.specs.declared.lexeme.Key.TheVariants as key
use Rattle.qf_grammar.specs.declared.lexeme.Mark.TheVariants as mark
use Rattle.qf_grammar.specs.declared.tree.Several.{Several}
use Rattle.qf_grammar.specs.declared.tree.Factor.{Factor}
use Rattle.qf_grammar.specs.declared.tree.Factor.TheVariants as factor
use Rattle.qf_grammar.specs.declared.tree.Term.{Term}
use Rattle.qf_grammar.specs.declared.tree.Side.{Side}
use Rattle.qf_grammar.specs.declared.tree.Side.TheVariants as side
use Rattle.qf_grammar.specs.declared.tree.Item.{Item}
use Rattle.qf_grammar.specs.declared.tree.Item.TheVariants as item
use Rattle.qf_grammar.specs.declared.tree.Relation.{Relation}
use Rattle.qf_grammar.specs.declared.tree.Relation.TheVariants as relation
use Rattle.qf_grammar.specs.declared.tree.Compare.{Compare}
use Rattle.qf_grammar.specs.declared.tree.Compare.TheVariants as compare
use Rattle.qf_grammar.specs.declared.tree.Condition.{Condition}
use Rattle.qf_grammar.specs.declared.tree.Assign.{Assign}
use Rattle.qf_grammar.specs.declared.tree.Form.{Form}
use Rattle.qf_grammar.specs.declared.tree.Form.TheVariants as form
use Rattle.qf_grammar.specs.declared.judging.Stated.{Stated}
use Rattle.qf_grammar.specs.declared.fault.LogFault.{LogFault}
use Rattle.qf_grammar.specs.Spelling.{Lexemes, spell_factor, spell_second, spell_term, sign_of, spell_next, spell_first, spell_sum, spell_side, spell_item, spell_more, spell_several, spell_relation, spell_not, spell_tuple, spell_compare, Unit', Conj, Chain, negated, group, test, one_unit, unit_and, one_conj, conj_or, spell_unit, spell_conj, spell_chain, spell_assign, spell_name, spell_columns, IsFilter, IsForm}
use Rattle.qf_grammar.specs.Statements.{is_semicolon, onto, pieces_of, judged, judged_next, with_stated, first_table, statements_from, statements_of}
use Rattle.qf_grammar.proofs.StatedLaws.{stated}

-- a name, a number or a closing bracket
abbrev pub is_value : Lexeme → Bool
is_value (lex.Name c) = true
is_value (lex.Number n) = true
is_value (lex.Mark mark.Close) = true
is_value _ = false

-- a number does not stand behind a value
abbrev pub Meets : Bool → Lexeme → Type 0
Meets v (lex.Number n) = v ≡ false
Meets v _ = Unit {0}

-- no number stands behind a value; v says whether a value stands before the first
abbrev pub Parted : Bool → Lexemes → Type 0
Parted v [] = Unit {0}
Parted v (x ∷ xs) = Meets v x × Parted (is_value x) xs

meets_any : (v : Bool) (x : Lexeme) → Meets true x → Meets v x
meets_any v (lex.Number n) h = absurd cc
meets_any v (lex.Name c) h = tt
meets_any v (lex.Key k) h = tt
meets_any v (lex.Text t) h = tt
meets_any v (lex.Mark m) h = tt

parted_any : (v : Bool) (xs : Lexemes) → Parted true xs → Parted v xs
parted_any v [] h = tt
parted_any v (x ∷ xs) h = (meets_any v x h.0, h.1)

join : (v : Bool) (xs ys : Lexemes) → Parted v xs → Parted true ys → Parted v (xs ++ ys)
join v [] ys h k = parted_any v ys k
join v (x ∷ xs) ys h k = (h.0, join (is_value x) xs ys h.1 k)

all_parted : {A : Type 0} (spell : A → Lexemes) → ((a : A) → Parted true (spell a)) → (items : List A) → Parted true (flat_map spell items)
all_parted spell h [] = tt
all_parted spell h (a ∷ items) = join true (spell a) (flat_map spell items) (h a) (all_parted spell h items)

-- ---- sums

factor_meets : (f : Factor) → Meets false (spell_factor f)
factor_meets (factor.Number n) = refl
factor_meets (factor.Name c) = tt

second_parted : (v : Bool) (o : Option Factor) → Parted v (spell_second o)
second_parted v None = tt
second_parted v (Some f) = (tt, (factor_meets f, tt))

term_parted : (t : Term) → Parted false (spell_term t)
term_parted t = (factor_meets t.left, second_parted (is_value (spell_factor t.left)) t.right)

sign_parted : (m : Bool) (xs : Lexemes) → Parted false xs → Parted true (lex.Mark (sign_of m) ∷ xs)
sign_parted true xs h = (tt, h)
sign_parted false xs h = (tt, h)

first_parted : (m : Bool) (xs : Lexemes) → Parted false xs → Parted false (spell_first m ++ xs)
first_parted true xs h = (tt, h)
first_parted false xs h = h

sum_parted : (s : Several Term) → Parted false (spell_sum s)
sum_parted s = first_parted s.first.minus (spell_term s.first ++ flat_map spell_next s.others)
    (join false (spell_term s.first) (flat_map spell_next s.others) (term_parted s.first) (all_parted spell_next (λ t. sign_parted t.minus (spell_term t) (term_parted t)) s.others))

-- ---- comparisons

side_parted : (s : Side) → Parted false (spell_side s)
side_parted (side.Sum s) = sum_parted s
side_parted (side.Text t) = (tt, tt)

item_parted : (i : Item) → Parted false (spell_item i)
item_parted (item.Number n) = (refl, tt)
item_parted (item.Text t) = (tt, tt)

several_parted : {A : Type 0} (spell : A → Lexemes) → ((a : A) → Parted false (spell a)) → (s : Several A) → Parted false (spell_several spell s)
several_parted spell h s = join false (spell s.first) (flat_map (spell_more spell) s.others) (h s.first) (all_parted (spell_more spell) (λ a. (tt, h a)) s.others)

tuple_parted : {A : Type 0} (v : Bool) (spell : A → Lexemes) → ((a : A) → Parted false (spell a)) → (s : Several A) → Parted v (spell_tuple spell s)
tuple_parted v spell h s = (tt, join false (spell_several spell s) (lex.Mark mark.Close ∷ []) (several_parted spell h s) (tt, tt))

relation_parted : (r : Relation) (xs : Lexemes) → Parted false xs → Parted true (lex.Mark (spell_relation r) ∷ xs)
relation_parted relation.Equal xs h = (tt, h)
relation_parted relation.Unequal xs h = (tt, h)
relation_parted relation.Less xs h = (tt, h)
relation_parted relation.LessEqual xs h = (tt, h)
relation_parted relation.Greater xs h = (tt, h)
relation_parted relation.GreaterEqual xs h = (tt, h)

not_parted : (m : Bool) (xs : Lexemes) → Parted true xs → Parted true (spell_not m ++ xs)
not_parted true xs h = (tt, parted_any false xs h)
not_parted false xs h = h

compare_parted : (c : Compare) → Parted false (spell_compare c)
compare_parted (compare.Relate l r m) = join false (spell_side l) (lex.Mark (spell_relation r) ∷ spell_side m) (side_parted l) (relation_parted r (spell_side m) (side_parted m))
compare_parted (compare.Between x n low high) =
    join false (spell_sum x) (spell_not n ++ (lex.Key key.Between ∷ (spell_sum low ++ lex.Key key.And ∷ spell_sum high))) (sum_parted x)
    (not_parted n (lex.Key key.Between ∷ (spell_sum low ++ lex.Key key.And ∷ spell_sum high)) (tt, join false (spell_sum low) (lex.Key key.And ∷ spell_sum high) (sum_parted low) (tt, sum_parted high)))
compare_parted (compare.Within x n items) =
    join false (spell_side x) (spell_not n ++ (lex.Key key.In ∷ spell_tuple spell_item items)) (side_parted x) (not_parted n (lex.Key key.In ∷ spell_tuple spell_item items) (tt, tuple_parted false spell_item item_parted items))

-- ---- conditions

mutual
  unit_parted : (u : Unit') → Parted false (spell_unit u)
  unit_parted (negated u) = (tt, unit_parted u)
  unit_parted (group c) = (tt, join false (spell_chain c) (lex.Mark mark.Close ∷ []) (chain_parted c) (tt, tt))
  unit_parted (test t) = compare_parted t

  conj_parted : (c : Conj) → Parted false (spell_conj c)
  conj_parted (one_unit u) = unit_parted u
  conj_parted (unit_and u c) = join false (spell_unit u) (lex.Key key.And ∷ spell_conj c) (unit_parted u) (tt, conj_parted c)

  chain_parted : (c : Chain) → Parted false (spell_chain c)
  chain_parted (one_conj c) = conj_parted c
  chain_parted (conj_or c d) = join false (spell_conj c) (lex.Key key.Or ∷ spell_chain d) (conj_parted c) (tt, chain_parted d)

-- ---- statements

filter_parted : (ys : Lexemes) (o : Option Condition) → IsFilter 32 ys o → Parted true ys
filter_parted ys None h = subst (Parted true) (sym h) tt
filter_parted ys (Some c) h = subst (Parted true) (sym h.1) (tt, subst (Parted false) (sym h.2.spelled) (chain_parted h.2.chain))

assign_parted : (a : Assign) → Parted false (spell_assign a)
assign_parted a = (tt, (tt, side_parted a.value))

columns_parted : (o : Option (Several ℕ)) (xs : Lexemes) → Parted true xs → Parted true (spell_columns o ++ xs)
columns_parted None xs h = h
columns_parted (Some names) xs h = join true (spell_tuple spell_name names) xs (tuple_parted true spell_name (λ n. (tt, tt)) names) h

form_parted : (xs : Lexemes) (f : Form) → IsForm 32 xs f → Parted false xs
form_parted xs (form.Update table sets filter) h =
    subst (Parted false) (sym h.1) (tt, (tt, (tt, join false (spell_several spell_assign sets) h.0 (several_parted spell_assign assign_parted sets) (filter_parted h.0 filter h.2))))
form_parted xs (form.Delete table filter) h = subst (Parted false) (sym h.1) (tt, (tt, (tt, filter_parted h.0 filter h.2)))
form_parted xs (form.Insert table columns tuples) h =
    subst (Parted false) (sym h) (tt, (tt, (tt, columns_parted columns (lex.Key key.Values ∷ spell_several (spell_tuple spell_item) tuples) (tt, several_parted (spell_tuple spell_item) (tuple_parted false spell_item item_parted) tuples))))

-- ---- all pieces

abbrev AllParted : List Lexemes → Type 0
AllParted pieces = AllByRecursion (Parted false) pieces

next_parted : (pieces : List Lexemes) (piece : Lexemes) (s : Stated) (r : Result (List Stated) LogFault) (all : List Stated) → IsForm 32 piece s.form → with_stated s r ≡ Ok all → ((rest : List Stated) → r ≡ Ok rest → AllParted pieces) → AllParted (piece ∷ pieces)
next_parted pieces piece s (Ok rest) all f e h = (form_parted piece s.form f, h rest refl)
next_parted pieces piece s (Err x) all f e h = absurd cc

piece_parted : (numbers : List ℤ) (first : Option ℕ) (k : ℕ) (piece : Lexemes) (pieces : List Lexemes) (next : Stated → Result (List Stated) LogFault) (r : Result Stated LogFault) (all : List Stated) → judged numbers first k piece ≡ r → judged_next next r ≡ Ok all
    → ((s : Stated) (rest : List Stated) → next s ≡ Ok rest → AllParted pieces) → AllParted (piece ∷ pieces)
piece_parted numbers first k piece pieces next (Ok s) all j e h = next_parted pieces piece s (next s) all (stated numbers first k piece s j).1 e (h s)
piece_parted numbers first k piece pieces next (Err x) all j e h = absurd cc

pieces_parted : (numbers : List ℤ) (first : Option ℕ) (k : ℕ) (pieces : List Lexemes) (all : List Stated) → statements_from numbers first k pieces ≡ Ok all → AllParted pieces
pieces_parted numbers first k [] all e = tt
pieces_parted numbers first k ([] ∷ pieces) all e = (tt, pieces_parted numbers first k pieces all e)
pieces_parted numbers first k ((x ∷ xs) ∷ pieces) all e =
    piece_parted numbers first k (x ∷ xs) pieces (λ s. statements_from numbers (first_table first s.form) (k + 1) pieces) (judged numbers first k (x ∷ xs)) all refl e
    (λ s rest f. pieces_parted numbers (first_table first s.form) (k + 1) pieces rest f)

-- the first piece behind a value or not, the others behind a semicolon
abbrev FirstParted : Bool → List Lexemes → Type 0
FirstParted v [] = Unit {0}
FirstParted v (piece ∷ pieces) = Parted v piece × AllParted pieces

first_of : (pieces : List Lexemes) → AllParted pieces → FirstParted false pieces
first_of [] h = tt
first_of (piece ∷ pieces) h = h

onto_parted : (v : Bool) (x : Lexeme) (pieces : List Lexemes) → FirstParted v (onto x pieces) → Meets v x × FirstParted (is_value x) pieces
onto_parted v x [] h = (h.0.0, tt)
onto_parted v x (piece ∷ pieces) h = (h.0.0, (h.0.1, h.1))

semicolon_parted : (v : Bool) (x : Lexeme) (xs : Lexemes) → is_semicolon x ≡ true → Parted false xs → Parted v (x ∷ xs)
semicolon_parted v (lex.Mark mark.Semicolon) xs e h = (tt, h)
semicolon_parted v x xs e h = absurd cc

whole_case : (v : Bool) (x : Lexeme) (xs : Lexemes) (b : Bool) → is_semicolon x ≡ b → ((w : Bool) → FirstParted w (pieces_of xs) → Parted w xs) → FirstParted v (cond b ([] ∷ pieces_of xs) (onto x (pieces_of xs))) → Parted v (x ∷ xs)
whole_case v x xs true e next h = semicolon_parted v x xs e (next false (first_of (pieces_of xs) h.1))
whole_case v x xs false e next h = let o = onto_parted v x (pieces_of xs) h in (o.0, next (is_value x) o.1)

whole_parted : (v : Bool) (xs : Lexemes) → FirstParted v (pieces_of xs) → Parted v xs
whole_parted v [] h = tt
whole_parted v (x ∷ xs) h = whole_case v x xs (is_semicolon x) refl (λ w k. whole_parted w xs k) h

pub statements_parted : (numbers : List ℤ) (xs : Lexemes) (all : List Stated) → statements_of numbers xs ≡ Ok all → Parted false xs
statements_parted numbers xs all e = whole_parted false xs (first_of (pieces_of xs) (pieces_parted numbers None 1 (pieces_of xs) all e))
