-- What stands at the front of the lexemes, as functions.
use Rattle.std.specs.Prelude.{ℕ, zero, suc, Bool, true, false, List, [], ◌∷◌, length, Option, Some, None, option_map, option_and_then, if◌then◌else◌}
use Rattle.std.specs.Borrow.{Bor}
use Rattle.qf_grammar.specs.declared.lexeme.Lexeme.{Lexeme}
use Rattle.qf_grammar.specs.declared.lexeme.Lexeme.TheVariants as lex
use Rattle.qf_grammar.specs.declared.lexeme.Key.TheVariants as key
use Rattle.qf_grammar.specs.declared.lexeme.Mark.TheVariants as mark
use Rattle.qf_grammar.specs.declared.tree.Several.{Several}
use Rattle.qf_grammar.specs.declared.tree.Factor.{Factor}
use Rattle.qf_grammar.specs.declared.tree.Factor.TheVariants as factor
use Rattle.qf_grammar.specs.declared.tree.Term.{Term}
use Rattle.qf_grammar.specs.declared.tree.Side.{Side}
use Rattle.qf_grammar.specs.declared.tree.Side.TheVariants as side
use Rattle.qf_grammar.specs.declared.tree.Item.{Item}
use Rattle.qf_grammar.specs.declared.tree.Item.TheVariants as item
use Rattle.qf_grammar.specs.declared.tree.Relation.{Relation}
use Rattle.qf_grammar.specs.declared.tree.Relation.TheVariants as relation
use Rattle.qf_grammar.specs.declared.tree.Compare.{Compare}
use Rattle.qf_grammar.specs.declared.tree.Compare.TheVariants as compare
use Rattle.qf_grammar.specs.declared.tree.Condition.{Condition}
use Rattle.qf_grammar.specs.declared.tree.Condition.TheVariants as condition
use Rattle.qf_grammar.specs.declared.tree.Assign.{Assign}
use Rattle.qf_grammar.specs.declared.tree.Form.{Form}
use Rattle.qf_grammar.specs.declared.tree.Form.TheVariants as form
use Rattle.qf_grammar.specs.Spelling.{Lexemes, all_of, any_of}

abbrev pub Reader : Type 0 → Type 0
Reader A = Lexemes → Option (A × Lexemes)

-- what a reader of the code answered
abbrev pub seen : {A : Type 0} → Option (A × Bor Lexemes) → Option (A × Lexemes)
seen o = option_map (λ p. (p.0, p.1.now)) o

-- ---- one lexeme

abbrev pub is_and : Lexeme → Bool
is_and (lex.Key key.And) = true
is_and _ = false

abbrev pub is_or : Lexeme → Bool
is_or (lex.Key key.Or) = true
is_or _ = false

abbrev pub is_not : Lexeme → Bool
is_not (lex.Key key.Not) = true
is_not _ = false

abbrev pub is_between : Lexeme → Bool
is_between (lex.Key key.Between) = true
is_between _ = false

abbrev pub is_in : Lexeme → Bool
is_in (lex.Key key.In) = true
is_in _ = false

abbrev pub is_update : Lexeme → Bool
is_update (lex.Key key.Update) = true
is_update _ = false

abbrev pub is_set : Lexeme → Bool
is_set (lex.Key key.Set) = true
is_set _ = false

abbrev pub is_where : Lexeme → Bool
is_where (lex.Key key.Where) = true
is_where _ = false

abbrev pub is_delete : Lexeme → Bool
is_delete (lex.Key key.Delete) = true
is_delete _ = false

abbrev pub is_from : Lexeme → Bool
is_from (lex.Key key.From) = true
is_from _ = false

abbrev pub is_insert : Lexeme → Bool
is_insert (lex.Key key.Insert) = true
is_insert _ = false

abbrev pub is_into : Lexeme → Bool
is_into (lex.Key key.Into) = true
is_into _ = false

abbrev pub is_values : Lexeme → Bool
is_values (lex.Key key.Values) = true
is_values _ = false

abbrev pub is_equal : Lexeme → Bool
is_equal (lex.Mark mark.Equal) = true
is_equal _ = false

abbrev pub is_comma : Lexeme → Bool
is_comma (lex.Mark mark.Comma) = true
is_comma _ = false

abbrev pub is_star : Lexeme → Bool
is_star (lex.Mark mark.Star) = true
is_star _ = false

abbrev pub is_open : Lexeme → Bool
is_open (lex.Mark mark.Open) = true
is_open _ = false

abbrev pub is_close : Lexeme → Bool
is_close (lex.Mark mark.Close) = true
is_close _ = false

-- what is behind a lexeme of this kind, where one stands
abbrev pub behind : (Lexeme → Bool) → Lexemes → Option Lexemes
behind p [] = None
behind p (x ∷ xs) = if p x then Some xs else None

abbrev pub factor_of : Lexeme → Option Factor
factor_of (lex.Number n) = Some (factor.Number n)
factor_of (lex.Name c) = Some (factor.Name c)
factor_of _ = None

abbrev pub item_of : Lexeme → Option Item
item_of (lex.Number n) = Some (item.Number n)
item_of (lex.Text t) = Some (item.Text t)
item_of _ = None

abbrev pub text_of : Lexeme → Option ℕ
text_of (lex.Text t) = Some t
text_of _ = None

abbrev pub name_of : Lexeme → Option ℕ
name_of (lex.Name n) = Some n
name_of _ = None

abbrev pub relation_of : Lexeme → Option Relation
relation_of (lex.Mark mark.Equal) = Some relation.Equal
relation_of (lex.Mark mark.Unequal) = Some relation.Unequal
relation_of (lex.Mark mark.Less) = Some relation.Less
relation_of (lex.Mark mark.LessEqual) = Some relation.LessEqual
relation_of (lex.Mark mark.Greater) = Some relation.Greater
relation_of (lex.Mark mark.GreaterEqual) = Some relation.GreaterEqual
relation_of _ = None

-- one lexeme that stands for an A
abbrev pub one_at : {A : Type 0} → (Lexeme → Option A) → Reader A
one_at of [] = None
one_at of (x ∷ xs) = option_map (λ a. (a, xs)) (of x)

-- ---- several parts

-- a further part: none follows, what should follow is missing, or it is there
abbrev pub Further : Type 0 → Type 0
Further A = Option (Option (A × Lexemes))

abbrev pub further_step : {A : Type 0} → Reader (List A) → Lexemes → Further A → Option (List A × Lexemes)
further_step again xs None = Some ([], xs)
further_step again xs (Some None) = None
further_step again xs (Some (Some p)) = option_map (λ q. (p.0 ∷ q.0, q.1)) (again p.1)

-- all further parts, at most n of them
unfoldable pub further_at : {A : Type 0} → (Lexemes → Further A) → ℕ → Reader (List A)
further_at next zero xs = Some ([], xs)
further_at next (suc n) xs = further_step (further_at next n) xs (next xs)

abbrev pub with_first : {A : Type 0} → (Lexemes → Further A) → A × Lexemes → Option (Several A × Lexemes)
with_first next p = option_map (λ q. (record { first = p.0; others = q.0 }, q.1)) (further_at next (length p.1) p.1)

-- a part, and further ones
abbrev pub several_at : {A : Type 0} → Reader A → (Lexemes → Further A) → Reader (Several A)
several_at part next xs = option_and_then (with_first next) (part xs)

-- a comma and a part
abbrev pub comma_at : {A : Type 0} → Reader A → Lexemes → Further A
comma_at part xs = option_map part (behind is_comma xs)

-- ---- sums and sides

abbrev pub second_at : Bool → Factor → Lexemes → Option (Term × Lexemes)
second_at minus f [] = Some (record { minus = minus; left = f; right = None }, [])
second_at minus f (x ∷ xs) =
    if is_star x then option_map (λ p. (record { minus = minus; left = f; right = Some p.0 }, p.1)) (one_at factor_of xs)
    else Some (record { minus = minus; left = f; right = None }, x ∷ xs)

unfoldable pub term_at : Bool → Reader Term
term_at minus xs = option_and_then (λ p. second_at minus p.0 p.1) (one_at factor_of xs)

-- the sign before a further term
abbrev pub sign_of : Lexeme → Option Bool
sign_of (lex.Mark mark.Plus) = Some false
sign_of (lex.Mark mark.Minus) = Some true
sign_of _ = None

abbrev pub next_term : Lexemes → Further Term
next_term xs = option_map (λ p. term_at p.0 p.1) (one_at sign_of xs)

abbrev pub first_sign_at : Lexemes → Bool × Lexemes
first_sign_at (lex.Mark mark.Minus ∷ xs) = (true, xs)
first_sign_at xs = (false, xs)

unfoldable pub sum_at : Reader (Several Term)
sum_at xs = several_at (term_at (first_sign_at xs).0) next_term (first_sign_at xs).1

abbrev pub side_or : Option (ℕ × Lexemes) → Reader Side
side_or (Some p) xs = Some (side.Text p.0, p.1)
side_or None xs = option_map (λ p. (side.Sum p.0, p.1)) (sum_at xs)

unfoldable pub side_at : Reader Side
side_at xs = side_or (one_at text_of xs) xs

-- ---- comparisons

abbrev pub closed : {A : Type 0} → Option (A × Lexemes) → Option (A × Lexemes)
closed o = option_and_then (λ p. option_map (λ rest. (p.0, rest)) (behind is_close p.1)) o

unfoldable pub items_at : Reader (Several Item)
items_at xs = several_at (one_at item_of) (comma_at (one_at item_of)) xs

unfoldable pub tuple_at : Reader (Several Item)
tuple_at xs = option_and_then (λ rest. closed (items_at rest)) (behind is_open xs)

abbrev pub first_not_at : Lexemes → Bool × Lexemes
first_not_at (lex.Key key.Not ∷ xs) = (true, xs)
first_not_at xs = (false, xs)

unfoldable pub between_at : Several Term → Bool → Reader Compare
between_at x negated xs =
    option_and_then (λ p. option_and_then (λ rest. option_map (λ q. (compare.Between x negated p.0 q.0, q.1)) (sum_at rest)) (behind is_and p.1)) (sum_at xs)

abbrev pub between_side : Side → Bool → Reader Compare
between_side (side.Sum x) negated xs = between_at x negated xs
between_side (side.Text t) negated xs = None

abbrev pub within_at : Side → Bool → Reader Compare
within_at x negated xs = option_map (λ p. (compare.Within x negated p.0, p.1)) (tuple_at xs)

abbrev pub relate_at : Side → Bool → Reader Compare
relate_at l true xs = None
relate_at l false xs = option_and_then (λ p. option_map (λ q. (compare.Relate l p.0 q.0, q.1)) (side_at p.1)) (one_at relation_of xs)

abbrev pub within_or : Side → Bool → Option Lexemes → Reader Compare
within_or l negated (Some rest) xs = within_at l negated rest
within_or l negated None xs = relate_at l negated xs

abbrev pub between_or : Side → Bool → Option Lexemes → Reader Compare
between_or l negated (Some rest) xs = between_side l negated rest
between_or l negated None xs = within_or l negated (behind is_in xs) xs

-- behind the first side and NOT
unfoldable pub test_at : Side → Bool → Reader Compare
test_at l negated xs = between_or l negated (behind is_between xs) xs

abbrev pub behind_side : Side × Lexemes → Option (Compare × Lexemes)
behind_side p = test_at p.0 (first_not_at p.1).0 (first_not_at p.1).1

unfoldable pub compare_at : Reader Compare
compare_at xs = option_and_then behind_side (side_at xs)

-- ---- conditions

-- behind an item: the others, where a separator follows
abbrev pub others : {A : Type 0} → Reader (List A) → A → Lexemes → Option Lexemes → Option (List A × Lexemes)
others again a xs None = Some (a ∷ [], xs)
others again a xs (Some next) = option_map (λ q. (a ∷ q.0, q.1)) (again next)

-- items with separators between, at most n of them
unfoldable pub chain : {A : Type 0} → Reader A → (Lexeme → Bool) → ℕ → Reader (List A)
chain item sep zero xs = None
chain item sep (suc n) xs = option_and_then (λ p. others (chain item sep n) p.0 p.1 (behind sep p.1)) (item xs)

abbrev pub conj_with : Reader Condition → Reader Condition
conj_with unit xs = option_map (λ p. (all_of p.0, p.1)) (chain unit is_and (length xs) xs)

abbrev pub chain_with : Reader Condition → Reader Condition
chain_with unit xs = option_map (λ p. (any_of p.0, p.1)) (chain (conj_with unit) is_or (length xs) xs)

abbrev pub test_of : Reader Condition
test_of xs = option_map (λ p. (condition.Test p.0, p.1)) (compare_at xs)

abbrev pub group_or : Reader Condition → Option Lexemes → Reader Condition
group_or group (Some rest) xs = closed (group rest)
group_or group None xs = test_of xs

abbrev pub not_or : Reader Condition → Reader Condition → Option Lexemes → Reader Condition
not_or inner group (Some rest) xs = option_map (λ p. (condition.Not p.0, p.1)) (inner rest)
not_or inner group None xs = group_or group (behind is_open xs) xs

-- no more brackets and NOTs may nest
abbrev pub too_deep : Reader Condition
too_deep xs = None

unfoldable pub unit_at : ℕ → Reader Condition
unit_at zero xs = not_or too_deep too_deep (behind is_not xs) xs
unit_at (suc d) xs = not_or (unit_at d) (chain_with (unit_at d)) (behind is_not xs) xs

-- a unit behind NOT, where one more may nest
abbrev pub negated_at : ℕ → Reader Condition
negated_at zero xs = None
negated_at (suc d) xs = option_map (λ p. (condition.Not p.0, p.1)) (unit_at d xs)

-- a condition behind an opening bracket, where one more may nest
abbrev pub grouped_at : ℕ → Reader Condition
grouped_at zero xs = None
grouped_at (suc d) xs = closed (chain_with (unit_at d) xs)

-- ---- statements

abbrev pub if_end : {A : Type 0} → A → Lexemes → Option A
if_end a [] = Some a
if_end a (x ∷ xs) = None

-- what was read, where nothing is behind it
abbrev pub whole : {A : Type 0} → Option (A × Lexemes) → Option A
whole o = option_and_then (λ p. if_end p.0 p.1) o

unfoldable pub assign_at : Reader Assign
assign_at xs =
    option_and_then (λ n. option_and_then (λ rest. option_map (λ v. (record { column = n.0; value = v.0 }, v.1)) (side_at rest)) (behind is_equal n.1)) (one_at name_of xs)

unfoldable pub assigns_at : Reader (Several Assign)
assigns_at xs = several_at assign_at (comma_at assign_at) xs

abbrev pub filter_or : Option Lexemes → Lexemes → Option (Option Condition)
filter_or None xs = if_end None xs
filter_or (Some rest) xs = option_map (λ c. Some c) (whole (chain_with (unit_at 32) rest))

-- WHERE and a condition, or nothing, up to the end
unfoldable pub filter_at : Lexemes → Option (Option Condition)
filter_at xs = filter_or (behind is_where xs) xs

-- behind UPDATE
unfoldable pub update_at : Lexemes → Option Form
update_at xs =
    option_and_then (λ t. option_and_then (λ rest. option_and_then (λ s. option_map (λ f. form.Update t.0 s.0 f) (filter_at s.1)) (assigns_at rest)) (behind is_set t.1)) (one_at name_of xs)

-- behind DELETE
unfoldable pub delete_at : Lexemes → Option Form
delete_at xs = option_and_then (λ rest. option_and_then (λ t. option_map (λ f. form.Delete t.0 f) (filter_at t.1)) (one_at name_of rest)) (behind is_from xs)

unfoldable pub names_at : Reader (Several ℕ)
names_at xs = several_at (one_at name_of) (comma_at (one_at name_of)) xs

unfoldable pub tuples_at : Reader (Several (Several Item))
tuples_at xs = several_at tuple_at (comma_at tuple_at) xs

abbrev pub columns_or : Option Lexemes → Reader (Option (Several ℕ))
columns_or None xs = Some (None, xs)
columns_or (Some rest) xs = option_map (λ p. (Some p.0, p.1)) (closed (names_at rest))

-- the list of columns, if one stands there
unfoldable pub columns_at : Reader (Option (Several ℕ))
columns_at xs = columns_or (behind is_open xs) xs

-- behind INTO and a name
unfoldable pub values_at : ℕ → Lexemes → Option Form
values_at t xs = option_and_then (λ c. option_and_then (λ rest. option_map (λ s. form.Insert t c.0 s) (whole (tuples_at rest))) (behind is_values c.1)) (columns_at xs)

-- behind INSERT
unfoldable pub insert_at : Lexemes → Option Form
insert_at xs = option_and_then (λ rest. option_and_then (λ t. values_at t.0 t.1) (one_at name_of rest)) (behind is_into xs)

abbrev pub insert_or : Option Lexemes → Option Form
insert_or None = None
insert_or (Some rest) = insert_at rest

abbrev pub delete_or : Option Lexemes → Lexemes → Option Form
delete_or None xs = insert_or (behind is_insert xs)
delete_or (Some rest) xs = delete_at rest

abbrev pub update_or : Option Lexemes → Lexemes → Option Form
update_or None xs = delete_or (behind is_delete xs) xs
update_or (Some rest) xs = update_at rest

-- the statement that all the lexemes spell
unfoldable pub form_at : Lexemes → Option Form
form_at xs = update_or (behind is_update xs) xs
