-- What is read is spelled so: sums, lists and comparisons.
use Rattle.std.proofs.Common.{◌≡◌, ℕ, zero, suc, Bool, true, false, cond, List, [], ◌∷◌, ◌++◌, length, refl, sym, ap, subst, ◌∙◌, append_assoc, Option, Some, None}
use Rattle.std.specs.Prelude.{option_map, option_and_then}
use Rattle.std.specs.List.{flat_map}
use Rattle.qf_grammar.specs.declared.lexeme.Lexeme.{Lexeme}
use Rattle.qf_grammar.specs.declared.lexeme.Lexeme.TheVariants as lex
use Rattle.qf_grammar.specs.declared.lexeme.Key.TheVariants as key
use Rattle.qf_grammar.specs.declared.lexeme.Mark.TheVariants as mark
use Rattle.qf_grammar.specs.declared.tree.Several.{Several}
use Rattle.qf_grammar.specs.declared.tree.Factor.{Factor}
use Rattle.qf_grammar.specs.declared.tree.Term.{Term}
use Rattle.qf_grammar.specs.declared.tree.Side.{Side}
use Rattle.qf_grammar.specs.declared.tree.Side.TheVariants as side
use Rattle.qf_grammar.specs.declared.tree.Compare.{Compare}
use Rattle.qf_grammar.specs.declared.tree.Compare.TheVariants as compare
use Rattle.qf_grammar.specs.Spelling.{Lexemes, spell_factor, spell_term, sign_of, spell_next, spell_first, spell_sum, spell_side, spell_item, spell_more, spell_several, spell_relation, spell_not, spell_tuple, spell_compare, spell_name}
use Rattle.qf_grammar.specs.Reading.{Reader, Further, one_at, factor_of, item_of, name_of, text_of, relation_of, is_star, behind, further_step, further_at, with_first, several_at, comma_at, second_at, term_at, next_term, first_sign_at, sum_at, side_or, side_at, closed, items_at, tuple_at, first_not_at, between_at, between_side, within_at, relate_at, within_or, between_or, test_at, behind_side, compare_at}
use Rattle.qf_grammar.specs.Reading.{is_and, is_or, is_not, is_between, is_in, is_update, is_set, is_where, is_delete, is_from, is_insert, is_into, is_values, is_equal, is_comma, is_open, is_close}
use Rattle.qf_grammar.specs.Reading as reading

-- the property holds of what was read
abbrev pub When : {A : Type 0} → (A → Lexemes → Type 0) → Option (A × Lexemes) → Type 0
When P None = Unit {0}
When P (Some p) = P p.0 p.1

abbrev pub Spelled : {A : Type 0} → (A → Lexemes) → Lexemes → A → Lexemes → Type 0
Spelled f xs a rest = xs ≡ f a ++ rest

abbrev pub Front : Lexeme → Lexemes → Option Lexemes → Type 0
Front y xs None = Unit {0}
Front y xs (Some rest) = xs ≡ y ∷ rest

pub when_map : {A B : Type 0} (P : A → Lexemes → Type 0) (Q : B → Lexemes → Type 0) (g : A → B) (o : Option (A × Lexemes)) → ((a : A) (rest : Lexemes) → P a rest → Q (g a) rest) → When P o → When Q (option_map (λ p. (g p.0, p.1)) o)
when_map P Q g None h w = tt
when_map P Q g (Some p) h w = h p.0 p.1 w

pub when_then : {A B : Type 0} (P : A → Lexemes → Type 0) (Q : B → Lexemes → Type 0) (k : A × Lexemes → Option (B × Lexemes)) (o : Option (A × Lexemes)) → ((a : A) (rest : Lexemes) → P a rest → When Q (k (a, rest))) → When P o → When Q (option_and_then k o)
when_then P Q k None h w = tt
when_then P Q k (Some p) h w = h p.0 p.1 w

pub front_then : {B : Type 0} (y : Lexeme) (xs : Lexemes) (Q : B → Lexemes → Type 0) (k : Lexemes → Option (B × Lexemes)) (o : Option Lexemes) → ((rest : Lexemes) → xs ≡ y ∷ rest → When Q (k rest)) → Front y xs o → When Q (option_and_then k o)
front_then y xs Q k None h w = tt
front_then y xs Q k (Some rest) h w = h rest w

pub join : (a b : Lexemes) (x y rest : Lexemes) → x ≡ a ++ y → y ≡ b ++ rest → x ≡ (a ++ b) ++ rest
join a b x y rest e f = e ∙ ap (λ t. a ++ t) f ∙ sym (append_assoc a b rest)

-- ---- one lexeme

pub and_front : (xs : Lexemes) → Front (lex.Key key.And) xs (behind is_and xs)
and_front [] = tt
and_front (lex.Key key.And ∷ xs) = refl
and_front (x ∷ xs) = tt

pub or_front : (xs : Lexemes) → Front (lex.Key key.Or) xs (behind is_or xs)
or_front [] = tt
or_front (lex.Key key.Or ∷ xs) = refl
or_front (x ∷ xs) = tt

pub not_front : (xs : Lexemes) → Front (lex.Key key.Not) xs (behind is_not xs)
not_front [] = tt
not_front (lex.Key key.Not ∷ xs) = refl
not_front (x ∷ xs) = tt

pub between_front : (xs : Lexemes) → Front (lex.Key key.Between) xs (behind is_between xs)
between_front [] = tt
between_front (lex.Key key.Between ∷ xs) = refl
between_front (x ∷ xs) = tt

pub in_front : (xs : Lexemes) → Front (lex.Key key.In) xs (behind is_in xs)
in_front [] = tt
in_front (lex.Key key.In ∷ xs) = refl
in_front (x ∷ xs) = tt

pub update_front : (xs : Lexemes) → Front (lex.Key key.Update) xs (behind is_update xs)
update_front [] = tt
update_front (lex.Key key.Update ∷ xs) = refl
update_front (x ∷ xs) = tt

pub set_front : (xs : Lexemes) → Front (lex.Key key.Set) xs (behind is_set xs)
set_front [] = tt
set_front (lex.Key key.Set ∷ xs) = refl
set_front (x ∷ xs) = tt

pub where_front : (xs : Lexemes) → Front (lex.Key key.Where) xs (behind is_where xs)
where_front [] = tt
where_front (lex.Key key.Where ∷ xs) = refl
where_front (x ∷ xs) = tt

pub delete_front : (xs : Lexemes) → Front (lex.Key key.Delete) xs (behind is_delete xs)
delete_front [] = tt
delete_front (lex.Key key.Delete ∷ xs) = refl
delete_front (x ∷ xs) = tt

pub from_front : (xs : Lexemes) → Front (lex.Key key.From) xs (behind is_from xs)
from_front [] = tt
from_front (lex.Key key.From ∷ xs) = refl
from_front (x ∷ xs) = tt

pub insert_front : (xs : Lexemes) → Front (lex.Key key.Insert) xs (behind is_insert xs)
insert_front [] = tt
insert_front (lex.Key key.Insert ∷ xs) = refl
insert_front (x ∷ xs) = tt

pub into_front : (xs : Lexemes) → Front (lex.Key key.Into) xs (behind is_into xs)
into_front [] = tt
into_front (lex.Key key.Into ∷ xs) = refl
into_front (x ∷ xs) = tt

pub values_front : (xs : Lexemes) → Front (lex.Key key.Values) xs (behind is_values xs)
values_front [] = tt
values_front (lex.Key key.Values ∷ xs) = refl
values_front (x ∷ xs) = tt

pub equal_front : (xs : Lexemes) → Front (lex.Mark mark.Equal) xs (behind is_equal xs)
equal_front [] = tt
equal_front (lex.Mark mark.Equal ∷ xs) = refl
equal_front (x ∷ xs) = tt

pub comma_front : (xs : Lexemes) → Front (lex.Mark mark.Comma) xs (behind is_comma xs)
comma_front [] = tt
comma_front (lex.Mark mark.Comma ∷ xs) = refl
comma_front (x ∷ xs) = tt

pub open_front : (xs : Lexemes) → Front (lex.Mark mark.Open) xs (behind is_open xs)
open_front [] = tt
open_front (lex.Mark mark.Open ∷ xs) = refl
open_front (x ∷ xs) = tt

pub close_front : (xs : Lexemes) → Front (lex.Mark mark.Close) xs (behind is_close xs)
close_front [] = tt
close_front (lex.Mark mark.Close ∷ xs) = refl
close_front (x ∷ xs) = tt

pub factor_good : (xs : Lexemes) → When (Spelled (λ f. spell_factor f ∷ []) xs) (one_at factor_of xs)
factor_good [] = tt
factor_good (lex.Number n ∷ xs) = refl
factor_good (lex.Name n ∷ xs) = refl
factor_good (x ∷ xs) = tt

pub item_good : (xs : Lexemes) → When (Spelled spell_item xs) (one_at item_of xs)
item_good [] = tt
item_good (lex.Number n ∷ xs) = refl
item_good (lex.Text n ∷ xs) = refl
item_good (x ∷ xs) = tt

pub name_good : (xs : Lexemes) → When (Spelled spell_name xs) (one_at name_of xs)
name_good [] = tt
name_good (lex.Name n ∷ xs) = refl
name_good (x ∷ xs) = tt

pub text_good : (xs : Lexemes) → When (Spelled (λ t. lex.Text t ∷ []) xs) (one_at text_of xs)
text_good [] = tt
text_good (lex.Text n ∷ xs) = refl
text_good (x ∷ xs) = tt

pub relation_good : (xs : Lexemes) → When (Spelled (λ r. lex.Mark (spell_relation r) ∷ []) xs) (one_at relation_of xs)
relation_good [] = tt
relation_good (lex.Mark mark.Equal ∷ xs) = refl
relation_good (lex.Mark mark.Unequal ∷ xs) = refl
relation_good (lex.Mark mark.Less ∷ xs) = refl
relation_good (lex.Mark mark.LessEqual ∷ xs) = refl
relation_good (lex.Mark mark.Greater ∷ xs) = refl
relation_good (lex.Mark mark.GreaterEqual ∷ xs) = refl
relation_good (x ∷ xs) = tt

pub sign_good : (xs : Lexemes) → When (Spelled (λ m. lex.Mark (sign_of m) ∷ []) xs) (one_at reading.sign_of xs)
sign_good [] = tt
sign_good (lex.Mark mark.Plus ∷ xs) = refl
sign_good (lex.Mark mark.Minus ∷ xs) = refl
sign_good (x ∷ xs) = tt

pub first_sign_good : (xs : Lexemes) → xs ≡ spell_first (first_sign_at xs).0 ++ (first_sign_at xs).1
first_sign_good (lex.Mark mark.Minus ∷ xs) = refl
first_sign_good xs = refl

pub first_not_good : (xs : Lexemes) → xs ≡ spell_not (first_not_at xs).0 ++ (first_not_at xs).1
first_not_good (lex.Key key.Not ∷ xs) = refl
first_not_good xs = refl

-- ---- several parts

abbrev pub GoodFurther : {A : Type 0} → (A → Lexemes) → Lexemes → Further A → Type 0
GoodFurther f xs None = Unit {0}
GoodFurther f xs (Some o) = When (Spelled f xs) o

further_case : {A : Type 0} (f : A → Lexemes) (again : Reader (List A)) → ((ys : Lexemes) → When (Spelled (flat_map f) ys) (again ys)) → (xs : Lexemes) (o : Further A) → GoodFurther f xs o → When (Spelled (flat_map f) xs) (further_step again xs o)
further_case f again h xs None g = refl
further_case f again h xs (Some None) g = tt
further_case f again h xs (Some (Some p)) g = when_map (Spelled (flat_map f) p.1) (Spelled (flat_map f) xs) (λ ts. p.0 ∷ ts) (again p.1) (λ ts rest e. join (f p.0) (flat_map f ts) xs p.1 rest g e) (h p.1)

pub further_good : {A : Type 0} (f : A → Lexemes) (next : Lexemes → Further A) → ((ys : Lexemes) → GoodFurther f ys (next ys)) → (n : ℕ) (xs : Lexemes) → When (Spelled (flat_map f) xs) (further_at next n xs)
unfolding further_at
further_good f next g zero xs = refl
further_good f next g (suc n) xs = further_case f (further_at next n) (further_good f next g n) xs (next xs) (g xs)

comma_case : {A : Type 0} (f : A → Lexemes) (part : Reader A) → ((ys : Lexemes) → When (Spelled f ys) (part ys)) → (xs : Lexemes) (o : Option Lexemes) → Front (lex.Mark mark.Comma) xs o → GoodFurther (spell_more f) xs (option_map part o)
comma_case f part h xs None e = tt
comma_case f part h xs (Some rest) e = part_case f xs rest (part rest) e (h rest)
  where
    part_case : {A : Type 0} (f : A → Lexemes) (xs rest : Lexemes) (o : Option (A × Lexemes)) → xs ≡ lex.Mark mark.Comma ∷ rest → When (Spelled f rest) o → When (Spelled (spell_more f) xs) o
    part_case f xs rest None e w = tt
    part_case f xs rest (Some p) e w = e ∙ ap (λ t. lex.Mark mark.Comma ∷ t) w

pub comma_good : {A : Type 0} (f : A → Lexemes) (part : Reader A) → ((ys : Lexemes) → When (Spelled f ys) (part ys)) → (xs : Lexemes) → GoodFurther (spell_more f) xs (comma_at part xs)
comma_good f part h xs = comma_case f part h xs (behind is_comma xs) (comma_front xs)

pub several_good : {A : Type 0} (f : A → Lexemes) (part : Reader A) → ((ys : Lexemes) → When (Spelled f ys) (part ys)) → (xs : Lexemes) → When (Spelled (spell_several f) xs) (several_at part (comma_at part) xs)
several_good f part h xs = when_then (Spelled f xs) (Spelled (spell_several f) xs) (with_first (comma_at part)) (part xs)
    (λ a rest e. when_map (Spelled (flat_map (spell_more f)) rest) (Spelled (spell_several f) xs) (λ ts. record { first = a; others = ts }) (further_at (comma_at part) (length rest) rest)
    (λ ts after g. join (f a) (flat_map (spell_more f) ts) xs rest after e g) (further_good (spell_more f) (comma_at part) (comma_good f part h) (length rest) rest)) (h xs)

-- ---- sums and sides

abbrev IsTerm : Bool → Lexemes → Term → Lexemes → Type 0
IsTerm m xs t rest = (xs ≡ spell_term t ++ rest) × (t.minus ≡ m)

second_case : (m : Bool) (l : Factor) (x : Lexeme) (xs : Lexemes) (v : Bool) → is_star x ≡ v
    → When (IsTerm m (spell_factor l ∷ x ∷ xs)) (cond v (option_map (λ p. (record { minus = m; left = l; right = Some p.0 }, p.1)) (one_at factor_of xs)) (Some (record { minus = m; left = l; right = None }, x ∷ xs)))
second_case m l (lex.Mark mark.Star) xs true e = when_map (Spelled (λ f. spell_factor f ∷ []) xs) (IsTerm m (spell_factor l ∷ lex.Mark mark.Star ∷ xs)) (λ f. record { minus = m; left = l; right = Some f }) (one_at factor_of xs)
    (λ f rest g. (ap (λ t. spell_factor l ∷ lex.Mark mark.Star ∷ t) g, refl)) (factor_good xs)
second_case m l x xs true e = absurd cc
second_case m l x xs false e = (refl, refl)

second_good : (m : Bool) (l : Factor) (xs : Lexemes) → When (IsTerm m (spell_factor l ∷ xs)) (second_at m l xs)
second_good m l [] = (refl, refl)
second_good m l (x ∷ xs) = second_case m l x xs (is_star x) refl

term_good : (m : Bool) (xs : Lexemes) → When (IsTerm m xs) (term_at m xs)
unfolding term_at
term_good m xs = when_then (Spelled (λ f. spell_factor f ∷ []) xs) (IsTerm m xs) (λ p. second_at m p.0 p.1) (one_at factor_of xs)
    (λ l rest e. subst (λ ys. When (IsTerm m ys) (second_at m l rest)) (sym e) (second_good m l rest)) (factor_good xs)

next_case : (xs : Lexemes) (o : Option (Bool × Lexemes)) → When (Spelled (λ m. lex.Mark (sign_of m) ∷ []) xs) o → GoodFurther spell_next xs (option_map (λ p. term_at p.0 p.1) o)
next_case xs None w = tt
next_case xs (Some p) w = signed_case xs p.0 p.1 (term_at p.0 p.1) w (term_good p.0 p.1)
  where
    signed_case : (xs : Lexemes) (m : Bool) (rest : Lexemes) (o : Option (Term × Lexemes)) → xs ≡ lex.Mark (sign_of m) ∷ rest → When (IsTerm m rest) o → When (Spelled spell_next xs) o
    signed_case xs m rest None e w = tt
    signed_case xs m rest (Some p) e w = e ∙ ap (λ b. lex.Mark (sign_of b) ∷ rest) (sym w.1) ∙ ap (λ t. lex.Mark (sign_of p.0.minus) ∷ t) w.0

next_good : (xs : Lexemes) → GoodFurther spell_next xs (next_term xs)
next_good xs = next_case xs (one_at reading.sign_of xs) (sign_good xs)

pub sum_good : (xs : Lexemes) → When (Spelled spell_sum xs) (sum_at xs)
unfolding sum_at
sum_good xs =
    let s = first_sign_at xs in
    when_then (IsTerm s.0 s.1) (Spelled spell_sum xs) (with_first next_term) (term_at s.0 s.1)
    (λ a rest e. when_map (Spelled (flat_map spell_next) rest) (Spelled spell_sum xs) (λ ts. record { first = a; others = ts }) (further_at next_term (length rest) rest)
    (λ ts after g. join (spell_first a.minus) (spell_term a ++ flat_map spell_next ts) xs s.1 after (first_sign_good xs ∙ ap (λ b. spell_first b ++ s.1) (sym e.1)) (join (spell_term a) (flat_map spell_next ts) s.1 rest after e.0 g)) (further_good spell_next next_term next_good (length rest) rest)) (term_good s.0 s.1)

side_case : (xs : Lexemes) (o : Option (ℕ × Lexemes)) → When (Spelled (λ t. lex.Text t ∷ []) xs) o → When (Spelled spell_side xs) (side_or o xs)
side_case xs None w = when_map (Spelled spell_sum xs) (Spelled spell_side xs) (λ s. side.Sum s) (sum_at xs) (λ s rest e. e) (sum_good xs)
side_case xs (Some p) w = w

pub side_good : (xs : Lexemes) → When (Spelled spell_side xs) (side_at xs)
unfolding side_at
side_good xs = side_case xs (one_at text_of xs) (text_good xs)

-- ---- comparisons

close_case : {A : Type 0} (f : A → Lexemes) (xs : Lexemes) (a : A) (rest : Lexemes) (o : Option Lexemes) → Spelled f xs a rest → Front (lex.Mark mark.Close) rest o → When (Spelled (λ a. f a ++ lex.Mark mark.Close ∷ []) xs) (option_map (λ after. (a, after)) o)
close_case f xs a rest None e w = tt
close_case f xs a rest (Some after) e w = join (f a) (lex.Mark mark.Close ∷ []) xs rest after e w

pub closed_good : {A : Type 0} (f : A → Lexemes) (xs : Lexemes) (o : Option (A × Lexemes)) → When (Spelled f xs) o → When (Spelled (λ a. f a ++ lex.Mark mark.Close ∷ []) xs) (closed o)
closed_good f xs None w = tt
closed_good f xs (Some p) w = close_case f xs p.0 p.1 (behind is_close p.1) w (close_front p.1)

open_case : {A : Type 0} (f : A → Lexemes) (xs rest : Lexemes) (o : Option (A × Lexemes)) → xs ≡ lex.Mark mark.Open ∷ rest → When (Spelled (λ a. f a ++ lex.Mark mark.Close ∷ []) rest) o → When (Spelled (λ a. lex.Mark mark.Open ∷ (f a ++ lex.Mark mark.Close ∷ [])) xs) o
open_case f xs rest None e w = tt
open_case f xs rest (Some p) e w = e ∙ ap (λ t. lex.Mark mark.Open ∷ t) w

pub bracket_good : {A : Type 0} (f : A → Lexemes) (xs rest : Lexemes) (o : Option (A × Lexemes)) → xs ≡ lex.Mark mark.Open ∷ rest → When (Spelled f rest) o → When (Spelled (λ a. lex.Mark mark.Open ∷ (f a ++ lex.Mark mark.Close ∷ [])) xs) (closed o)
bracket_good f xs rest o e w = open_case f xs rest (closed o) e (closed_good f rest o w)

items_good : (xs : Lexemes) → When (Spelled (spell_several spell_item) xs) (items_at xs)
unfolding items_at
items_good xs = several_good spell_item (one_at item_of) item_good xs

pub tuple_good : (xs : Lexemes) → When (Spelled (spell_tuple spell_item) xs) (tuple_at xs)
unfolding tuple_at
tuple_good xs = front_then (lex.Mark mark.Open) xs (Spelled (spell_tuple spell_item) xs) (λ rest. closed (items_at rest)) (behind is_open xs)
    (λ rest e. bracket_good (spell_several spell_item) xs rest (items_at rest) e (items_good rest)) (open_front xs)

-- behind the first side
abbrev Behind : Side → Bool → Lexemes → Compare → Lexemes → Type 0
Behind l negated xs c rest = (ys : Lexemes) → ys ≡ spell_side l ++ (spell_not negated ++ xs) → ys ≡ spell_compare c ++ rest

three : (a b c : Lexemes) (ys xs rest : Lexemes) → ys ≡ a ++ (b ++ xs) → xs ≡ c ++ rest → ys ≡ (a ++ (b ++ c)) ++ rest
three a b c ys xs rest e f = join a (b ++ c) ys (b ++ xs) rest e (join b c (b ++ xs) xs rest refl f)

between_good : (x : Several Term) (negated : Bool) (xs after : Lexemes) → xs ≡ lex.Key key.Between ∷ after → When (Behind (side.Sum x) negated xs) (between_at x negated after)
unfolding between_at
between_good x negated xs after e =
    when_then (Spelled spell_sum after) (Behind (side.Sum x) negated xs) _ (sum_at after)
    (λ low r f. front_then (lex.Key key.And) r (Behind (side.Sum x) negated xs) (λ rest. option_map (λ q. (compare.Between x negated low q.0, q.1)) (sum_at rest)) (behind is_and r)
    (λ r2 g. when_map (Spelled spell_sum r2) (Behind (side.Sum x) negated xs) (λ high. compare.Between x negated low high) (sum_at r2)
    (λ high rest h. λ ys k. three (spell_sum x) (spell_not negated) (lex.Key key.Between ∷ (spell_sum low ++ lex.Key key.And ∷ spell_sum high)) ys xs rest k
    (e ∙ ap (λ t. lex.Key key.Between ∷ t) (join (spell_sum low) (lex.Key key.And ∷ spell_sum high) after r rest f (g ∙ ap (λ t. lex.Key key.And ∷ t) h)))) (sum_good r2)) (and_front r)) (sum_good after)

between_side_good : (l : Side) (negated : Bool) (xs after : Lexemes) → xs ≡ lex.Key key.Between ∷ after → When (Behind l negated xs) (between_side l negated after)
between_side_good (side.Sum x) negated xs after e = between_good x negated xs after e
between_side_good (side.Text t) negated xs after e = tt

within_good : (l : Side) (negated : Bool) (xs after : Lexemes) → xs ≡ lex.Key key.In ∷ after → When (Behind l negated xs) (within_at l negated after)
within_good l negated xs after e =
    when_map (Spelled (spell_tuple spell_item) after) (Behind l negated xs) (λ items. compare.Within l negated items) (tuple_at after)
    (λ items rest f. λ ys k. three (spell_side l) (spell_not negated) (lex.Key key.In ∷ spell_tuple spell_item items) ys xs rest k (e ∙ ap (λ t. lex.Key key.In ∷ t) f)) (tuple_good after)

relate_good : (l : Side) (negated : Bool) (xs : Lexemes) → When (Behind l negated xs) (relate_at l negated xs)
relate_good l true xs = tt
relate_good l false xs =
    when_then (Spelled (λ r. lex.Mark (spell_relation r) ∷ []) xs) (Behind l false xs) (λ p. option_map (λ q. (compare.Relate l p.0 q.0, q.1)) (side_at p.1)) (one_at relation_of xs)
    (λ r after e. when_map (Spelled spell_side after) (Behind l false xs) (λ m. compare.Relate l r m) (side_at after)
    (λ m rest f. λ ys k. join (spell_side l) (lex.Mark (spell_relation r) ∷ spell_side m) ys xs rest k (e ∙ ap (λ t. lex.Mark (spell_relation r) ∷ t) f)) (side_good after)) (relation_good xs)

within_case : (l : Side) (negated : Bool) (xs : Lexemes) (o : Option Lexemes) → Front (lex.Key key.In) xs o → When (Behind l negated xs) (within_or l negated o xs)
within_case l negated xs None w = relate_good l negated xs
within_case l negated xs (Some rest) w = within_good l negated xs rest w

between_case : (l : Side) (negated : Bool) (xs : Lexemes) (o : Option Lexemes) → Front (lex.Key key.Between) xs o → When (Behind l negated xs) (between_or l negated o xs)
between_case l negated xs None w = within_case l negated xs (behind is_in xs) (in_front xs)
between_case l negated xs (Some rest) w = between_side_good l negated xs rest w

test_good : (l : Side) (negated : Bool) (xs : Lexemes) → When (Behind l negated xs) (test_at l negated xs)
unfolding test_at
test_good l negated xs = between_case l negated xs (behind is_between xs) (between_front xs)

at_side : (xs : Lexemes) (l : Side) (negated : Bool) (rest : Lexemes) (o : Option (Compare × Lexemes)) → xs ≡ spell_side l ++ (spell_not negated ++ rest) → When (Behind l negated rest) o → When (Spelled spell_compare xs) o
at_side xs l negated rest None e w = tt
at_side xs l negated rest (Some p) e w = w xs e

pub compare_good : (xs : Lexemes) → When (Spelled spell_compare xs) (compare_at xs)
unfolding compare_at
compare_good xs =
    when_then (Spelled spell_side xs) (Spelled spell_compare xs) behind_side (side_at xs)
    (λ l rest e. at_side xs l (first_not_at rest).0 (first_not_at rest).1 (test_at l (first_not_at rest).0 (first_not_at rest).1) (e ∙ ap (λ t. spell_side l ++ t) (first_not_good rest)) (test_good l (first_not_at rest).0 (first_not_at rest).1)) (side_good xs)
