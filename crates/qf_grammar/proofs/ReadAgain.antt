-- What is spelled is read: sums, lists and comparisons, whatever follows that does not go on with them.
use Rattle.std.proofs.Common.{◌≡◌, ℕ, zero, suc, ◌≤◌, Bool, true, false, List, [], ◌∷◌, ◌++◌, length, refl, sym, ap, subst, ◌∙◌, append_assoc, arith, Option, Some, None}
use Rattle.std.specs.Prelude.{option_map, option_and_then}
use Rattle.std.specs.List.{flat_map}
use Rattle.std.proofs.lemmas.List.{length-append}
use Rattle.qf_grammar.specs.declared.lexeme.Lexeme.{Lexeme}
use Rattle.qf_grammar.specs.declared.lexeme.Lexeme.TheVariants as lex
use Rattle.qf_grammar.specs.declared.lexeme.Key.TheVariants as key
use Rattle.qf_grammar.specs.declared.lexeme.Mark.TheVariants as mark
use Rattle.qf_grammar.specs.declared.tree.Several.{Several}
use Rattle.qf_grammar.specs.declared.tree.Factor.{Factor}
use Rattle.qf_grammar.specs.declared.tree.Factor.TheVariants as factor
use Rattle.qf_grammar.specs.declared.tree.Term.{Term}
use Rattle.qf_grammar.specs.declared.tree.Side.{Side}
use Rattle.qf_grammar.specs.declared.tree.Side.TheVariants as side
use Rattle.qf_grammar.specs.declared.tree.Item.{Item}
use Rattle.qf_grammar.specs.declared.tree.Item.TheVariants as item
use Rattle.qf_grammar.specs.declared.tree.Relation.{Relation}
use Rattle.qf_grammar.specs.declared.tree.Relation.TheVariants as relation
use Rattle.qf_grammar.specs.declared.tree.Compare.{Compare}
use Rattle.qf_grammar.specs.declared.tree.Compare.TheVariants as compare
use Rattle.qf_grammar.specs.Spelling.{Lexemes, spell_factor, spell_second, spell_term, sign_of, spell_next, spell_first, spell_sum, spell_side, spell_item, spell_more, spell_several, spell_relation, spell_not, spell_tuple, spell_compare}
use Rattle.qf_grammar.specs.Reading.{Reader, Further, one_at, factor_of, item_of, text_of, is_star, is_comma, is_not, is_open, is_between, is_in, behind, further_at, with_first, several_at, comma_at, second_at, term_at, next_term, first_sign_at, sum_at, side_at, closed, items_at, tuple_at, first_not_at, between_at, within_at, test_at, behind_side, compare_at}
use Rattle.qf_grammar.specs.Reading as reading

abbrev pub Stops : (Lexeme → Bool) → Lexemes → Type 0
Stops p [] = Unit {0}
Stops p (x ∷ xs) = p x ≡ false

abbrev pub goes_on_sum : Lexeme → Bool
goes_on_sum (lex.Mark mark.Star) = true
goes_on_sum (lex.Mark mark.Plus) = true
goes_on_sum (lex.Mark mark.Minus) = true
goes_on_sum _ = false

pub none_behind : (p : Lexeme → Bool) (xs : Lexemes) → Stops p xs → behind p xs ≡ None
none_behind p [] s = refl
none_behind p (x ∷ xs) s = rw s refl

pub assoc_three : (a b c rest : Lexemes) → (a ++ (b ++ c)) ++ rest ≡ a ++ (b ++ (c ++ rest))
assoc_three a b c rest = append_assoc a (b ++ c) rest ∙ ap (λ t. a ++ t) (append_assoc b c rest)

-- ---- several parts

follow : {A : Type 0} (f : A → Lexemes) (F : Lexemes → Type 0) → ((a : A) (ys : Lexemes) → F (f a ++ ys)) → (ts : List A) (rest : Lexemes) → F rest → F (flat_map f ts ++ rest)
follow f F front [] rest h = h
follow f F front (t ∷ ts) rest h = subst F (sym (append_assoc (f t) (flat_map f ts) rest)) (front t (flat_map f ts ++ rest))

pub further_again : {A : Type 0} (f : A → Lexemes) (next : Lexemes → Further A) (F : Lexemes → Type 0) → ((a : A) (ys : Lexemes) → F ys → next (f a ++ ys) ≡ Some (Some (a, ys))) → ((a : A) (ys : Lexemes) → F (f a ++ ys))
    → (ts : List A) (n : ℕ) (rest : Lexemes) → F rest → next rest ≡ None → length ts ≤ n → further_at next n (flat_map f ts ++ rest) ≡ Some (ts, rest)
unfolding further_at
further_again f next F again front [] zero rest h stop le = refl
further_again f next F again front [] (suc n) rest h stop le = rw stop refl
further_again f next F again front (t ∷ ts) zero rest h stop le = absurd (omega arith)
further_again f next F again front (t ∷ ts) (suc n) rest h stop le =
    ap (further_at next (suc n)) (append_assoc (f t) (flat_map f ts) rest)
    ∙ rw (again t (flat_map f ts ++ rest) (follow f F front ts rest h)) (ap (option_map (λ q. (t ∷ q.0, q.1))) (further_again f next F again front ts n rest h stop (omega arith)))

short : {A : Type 0} (f : A → Lexemes) → ((a : A) → 1 ≤ length (f a)) → (ts : List A) (rest : Lexemes) → length ts ≤ length (flat_map f ts ++ rest)
short f one [] rest = omega arith
short f one (t ∷ ts) rest = omega (arith, one t, short f one ts rest, length-append (f t ++ flat_map f ts) rest, length-append (f t) (flat_map f ts), length-append (flat_map f ts) rest)

pub first_again : {A : Type 0} (f : A → Lexemes) (next : Lexemes → Further A) (F : Lexemes → Type 0) → ((a : A) (ys : Lexemes) → F ys → next (f a ++ ys) ≡ Some (Some (a, ys))) → ((a : A) (ys : Lexemes) → F (f a ++ ys))
    → ((a : A) → 1 ≤ length (f a)) → (s : Several A) (rest : Lexemes) → F rest → next rest ≡ None → with_first next (s.first, flat_map f s.others ++ rest) ≡ Some (s, rest)
first_again f next F again front one s rest h stop =
    ap (option_map (λ q. (record { first = s.first; others = q.0 }, q.1))) (further_again f next F again front s.others (length (flat_map f s.others ++ rest)) rest h stop (short f one s.others rest))

pub several_again : {A : Type 0} (g : A → Lexemes) (part : Reader A) (F : Lexemes → Type 0) → ((a : A) (ys : Lexemes) → F ys → part (g a ++ ys) ≡ Some (a, ys)) → ((ys : Lexemes) → F (lex.Mark mark.Comma ∷ ys))
    → (s : Several A) (rest : Lexemes) → F rest → Stops is_comma rest → several_at part (comma_at part) (spell_several g s ++ rest) ≡ Some (s, rest)
several_again g part F again front s rest h stop =
    ap (several_at part (comma_at part)) (append_assoc (g s.first) (flat_map (spell_more g) s.others) rest)
    ∙ ap (option_and_then (with_first (comma_at part))) (again s.first (flat_map (spell_more g) s.others ++ rest) (follow (spell_more g) F (λ a ys. front (g a ++ ys)) s.others rest h))
    ∙ first_again (spell_more g) (comma_at part) F (λ a ys k. ap (λ o. Some o) (again a ys k)) (λ a ys. front (g a ++ ys)) (λ a. omega arith) s rest h (ap (option_map part) (none_behind is_comma rest stop))

-- ---- sums and sides

factor_again : (f : Factor) (rest : Lexemes) → one_at factor_of (spell_factor f ∷ rest) ≡ Some (f, rest)
factor_again (factor.Number n) rest = refl
factor_again (factor.Name c) rest = refl

second_again : (m : Bool) (l : Factor) (o : Option Factor) (rest : Lexemes) → Stops is_star rest → second_at m l (spell_second o ++ rest) ≡ Some (record { minus = m; left = l; right = o }, rest)
second_again m l None [] s = refl
second_again m l None (x ∷ rest) s = rw s refl
second_again m l (Some f) rest s = ap (option_map (λ p. (record { minus = m; left = l; right = Some p.0 }, p.1))) (factor_again f rest)

term_again : (t : Term) (rest : Lexemes) → Stops is_star rest → term_at t.minus (spell_term t ++ rest) ≡ Some (t, rest)
unfolding term_at
term_again t rest s = ap (option_and_then (λ p. second_at t.minus p.0 p.1)) (factor_again t.left (spell_second t.right ++ rest)) ∙ second_again t.minus t.left t.right rest s

sign_again : (m : Bool) (rest : Lexemes) → one_at reading.sign_of (lex.Mark (sign_of m) ∷ rest) ≡ Some (m, rest)
sign_again true rest = refl
sign_again false rest = refl

sign_no_star : (m : Bool) → is_star (lex.Mark (sign_of m)) ≡ false
sign_no_star true = refl
sign_no_star false = refl

next_again : (t : Term) (ys : Lexemes) → Stops is_star ys → next_term (spell_next t ++ ys) ≡ Some (Some (t, ys))
next_again t ys s = ap (option_map (λ p. term_at p.0 p.1)) (sign_again t.minus (spell_term t ++ ys)) ∙ ap (λ o. Some o) (term_again t ys s)

not_star : (x : Lexeme) → goes_on_sum x ≡ false → is_star x ≡ false
not_star (lex.Mark mark.Star) e = e
not_star x e = refl

no_star : (rest : Lexemes) → Stops goes_on_sum rest → Stops is_star rest
no_star [] s = tt
no_star (x ∷ rest) s = not_star x s

no_sign : (x : Lexeme) → goes_on_sum x ≡ false → reading.sign_of x ≡ None
no_sign (lex.Mark mark.Plus) e = absurd cc
no_sign (lex.Mark mark.Minus) e = absurd cc
no_sign x e = refl

no_next : (rest : Lexemes) → Stops goes_on_sum rest → next_term rest ≡ None
no_next [] s = refl
no_next (x ∷ rest) s = rw (no_sign x s) refl

first_sign_again : (m : Bool) (l : Factor) (rest : Lexemes) → first_sign_at (spell_first m ++ (spell_factor l ∷ rest)) ≡ (m, spell_factor l ∷ rest)
first_sign_again true l rest = refl
first_sign_again false (factor.Number n) rest = refl
first_sign_again false (factor.Name c) rest = refl

abbrev sum_from : Bool × Lexemes → Option (Several Term × Lexemes)
sum_from p = option_and_then (with_first next_term) (term_at p.0 p.1)

pub sum_again : (s : Several Term) (rest : Lexemes) → Stops goes_on_sum rest → sum_at (spell_sum s ++ rest) ≡ Some (s, rest)
unfolding sum_at
sum_again s rest stop =
    ap (λ xs. sum_from (first_sign_at xs)) (assoc_three (spell_first s.first.minus) (spell_term s.first) (flat_map spell_next s.others) rest)
    ∙ ap sum_from (first_sign_again s.first.minus s.first.left (spell_second s.first.right ++ (flat_map spell_next s.others ++ rest)))
    ∙ ap (option_and_then (with_first next_term)) (term_again s.first (flat_map spell_next s.others ++ rest) (follow spell_next (Stops is_star) (λ a ys. sign_no_star a.minus) s.others rest (no_star rest stop)))
    ∙ first_again spell_next next_term (Stops is_star) next_again (λ a ys. sign_no_star a.minus) (λ a. omega arith) s rest (no_star rest stop) (no_next rest stop)

no_text : (m : Bool) (l : Factor) (rest : Lexemes) → one_at text_of (spell_first m ++ (spell_factor l ∷ rest)) ≡ None
no_text true l rest = refl
no_text false (factor.Number n) rest = refl
no_text false (factor.Name c) rest = refl

pub side_again : (l : Side) (rest : Lexemes) → Stops goes_on_sum rest → side_at (spell_side l ++ rest) ≡ Some (l, rest)
unfolding side_at
side_again (side.Text t) rest stop = refl
side_again (side.Sum s) rest stop =
    let none : one_at text_of (spell_sum s ++ rest) ≡ None = ap (one_at text_of) (assoc_three (spell_first s.first.minus) (spell_term s.first) (flat_map spell_next s.others) rest) ∙ no_text s.first.minus s.first.left (spell_second s.first.right ++ (flat_map spell_next s.others ++ rest)) in
    rw none (ap (option_map (λ p. (side.Sum p.0, p.1))) (sum_again s rest stop))

-- a side begins with no NOT and no bracket
abbrev pub BeginsSide : Lexemes → Type 0
BeginsSide xs = (behind is_not xs ≡ None) × (behind is_open xs ≡ None)

begins_sum : (m : Bool) (l : Factor) (rest : Lexemes) → BeginsSide (spell_first m ++ (spell_factor l ∷ rest))
begins_sum true l rest = (refl, refl)
begins_sum false (factor.Number n) rest = (refl, refl)
begins_sum false (factor.Name c) rest = (refl, refl)

begins_side : (l : Side) (rest : Lexemes) → BeginsSide (spell_side l ++ rest)
begins_side (side.Text t) rest = (refl, refl)
begins_side (side.Sum s) rest = subst BeginsSide (sym (assoc_three (spell_first s.first.minus) (spell_term s.first) (flat_map spell_next s.others) rest)) (begins_sum s.first.minus s.first.left (spell_second s.first.right ++ (flat_map spell_next s.others ++ rest)))

-- ---- comparisons

item_again : (i : Item) (ys : Lexemes) → Unit {0} → one_at item_of (spell_item i ++ ys) ≡ Some (i, ys)
item_again (item.Number n) ys u = refl
item_again (item.Text t) ys u = refl

items_again : (s : Several Item) (rest : Lexemes) → Stops is_comma rest → items_at (spell_several spell_item s ++ rest) ≡ Some (s, rest)
unfolding items_at
items_again s rest stop = several_again spell_item (one_at item_of) (λ ys. Unit {0}) item_again (λ ys. tt) s rest tt stop

pub tuple_again : (s : Several Item) (rest : Lexemes) → tuple_at (spell_tuple spell_item s ++ rest) ≡ Some (s, rest)
unfolding tuple_at
tuple_again s rest =
    ap (λ xs. closed (items_at xs)) (append_assoc (spell_several spell_item s) (lex.Mark mark.Close ∷ []) rest) ∙ ap closed (items_again s (lex.Mark mark.Close ∷ rest) refl)

between_again : (x : Several Term) (negated : Bool) (low high : Several Term) (rest : Lexemes) → Stops goes_on_sum rest → between_at x negated ((spell_sum low ++ lex.Key key.And ∷ spell_sum high) ++ rest) ≡ Some (compare.Between x negated low high, rest)
unfolding between_at
between_again x negated low high rest stop =
    ap (between_at x negated) (append_assoc (spell_sum low) (lex.Key key.And ∷ spell_sum high) rest)
    ∙ rw (sum_again low (lex.Key key.And ∷ (spell_sum high ++ rest)) refl) (ap (option_map (λ q. (compare.Between x negated low q.0, q.1))) (sum_again high rest stop))

relate_again : (l : Side) (r : Relation) (m : Side) (rest : Lexemes) → Stops goes_on_sum rest → behind_side (l, lex.Mark (spell_relation r) ∷ (spell_side m ++ rest)) ≡ Some (compare.Relate l r m, rest)
unfolding test_at
relate_again l relation.Equal m rest stop = ap (option_map (λ q. (compare.Relate l relation.Equal q.0, q.1))) (side_again m rest stop)
relate_again l relation.Unequal m rest stop = ap (option_map (λ q. (compare.Relate l relation.Unequal q.0, q.1))) (side_again m rest stop)
relate_again l relation.Less m rest stop = ap (option_map (λ q. (compare.Relate l relation.Less q.0, q.1))) (side_again m rest stop)
relate_again l relation.LessEqual m rest stop = ap (option_map (λ q. (compare.Relate l relation.LessEqual q.0, q.1))) (side_again m rest stop)
relate_again l relation.Greater m rest stop = ap (option_map (λ q. (compare.Relate l relation.Greater q.0, q.1))) (side_again m rest stop)
relate_again l relation.GreaterEqual m rest stop = ap (option_map (λ q. (compare.Relate l relation.GreaterEqual q.0, q.1))) (side_again m rest stop)

relation_stops : (r : Relation) → goes_on_sum (lex.Mark (spell_relation r)) ≡ false
relation_stops relation.Equal = refl
relation_stops relation.Unequal = refl
relation_stops relation.Less = refl
relation_stops relation.LessEqual = refl
relation_stops relation.Greater = refl
relation_stops relation.GreaterEqual = refl

behind_between : (x : Several Term) (negated : Bool) (low high : Several Term) (rest : Lexemes) → Stops goes_on_sum rest → behind_side (side.Sum x, spell_not negated ++ (lex.Key key.Between ∷ ((spell_sum low ++ lex.Key key.And ∷ spell_sum high) ++ rest))) ≡ Some (compare.Between x negated low high, rest)
unfolding test_at
behind_between x true low high rest stop = between_again x true low high rest stop
behind_between x false low high rest stop = between_again x false low high rest stop

behind_within : (l : Side) (negated : Bool) (s : Several Item) (rest : Lexemes) → behind_side (l, spell_not negated ++ (lex.Key key.In ∷ (spell_tuple spell_item s ++ rest))) ≡ Some (compare.Within l negated s, rest)
unfolding test_at
behind_within l true s rest = ap (option_map (λ p. (compare.Within l true p.0, p.1))) (tuple_again s rest)
behind_within l false s rest = ap (option_map (λ p. (compare.Within l false p.0, p.1))) (tuple_again s rest)

between_stops : (negated : Bool) (rest : Lexemes) → Stops goes_on_sum (spell_not negated ++ lex.Key key.Between ∷ rest)
between_stops true rest = refl
between_stops false rest = refl

in_stops : (negated : Bool) (rest : Lexemes) → Stops goes_on_sum (spell_not negated ++ lex.Key key.In ∷ rest)
in_stops true rest = refl
in_stops false rest = refl

pub compare_again : (c : Compare) (rest : Lexemes) → Stops goes_on_sum rest → compare_at (spell_compare c ++ rest) ≡ Some (c, rest)
unfolding compare_at
compare_again (compare.Relate l r m) rest stop =
    ap compare_at (append_assoc (spell_side l) (lex.Mark (spell_relation r) ∷ spell_side m) rest)
    ∙ ap (option_and_then behind_side) (side_again l (lex.Mark (spell_relation r) ∷ (spell_side m ++ rest)) (relation_stops r)) ∙ relate_again l r m rest stop
compare_again (compare.Between x negated low high) rest stop =
    let tail = lex.Key key.Between ∷ (spell_sum low ++ lex.Key key.And ∷ spell_sum high) in
    ap compare_at (assoc_three (spell_sum x) (spell_not negated) tail rest)
    ∙ ap (option_and_then behind_side) (side_again (side.Sum x) (spell_not negated ++ (tail ++ rest)) (between_stops negated ((spell_sum low ++ lex.Key key.And ∷ spell_sum high) ++ rest))) ∙ behind_between x negated low high rest stop
compare_again (compare.Within l negated s) rest stop =
    let tail = lex.Key key.In ∷ spell_tuple spell_item s in
    ap compare_at (assoc_three (spell_side l) (spell_not negated) tail rest)
    ∙ ap (option_and_then behind_side) (side_again l (spell_not negated ++ (tail ++ rest)) (in_stops negated (spell_tuple spell_item s ++ rest))) ∙ behind_within l negated s rest

pub begins_compare : (c : Compare) (rest : Lexemes) → BeginsSide (spell_compare c ++ rest)
begins_compare (compare.Relate l r m) rest = subst BeginsSide (sym (append_assoc (spell_side l) (lex.Mark (spell_relation r) ∷ spell_side m) rest)) (begins_side l (lex.Mark (spell_relation r) ∷ (spell_side m ++ rest)))
begins_compare (compare.Between x negated low high) rest =
    let tail = lex.Key key.Between ∷ (spell_sum low ++ lex.Key key.And ∷ spell_sum high) in
    subst BeginsSide (sym (assoc_three (spell_sum x) (spell_not negated) tail rest)) (begins_side (side.Sum x) (spell_not negated ++ (tail ++ rest)))
begins_compare (compare.Within l negated s) rest =
    let tail = lex.Key key.In ∷ spell_tuple spell_item s in
    subst BeginsSide (sym (assoc_three (spell_side l) (spell_not negated) tail rest)) (begins_side l (spell_not negated ++ (tail ++ rest)))
