-- Statements: what is read is spelled so, and what is spelled so is read.
use Rattle.std.proofs.Common.{◌≡◌, ℕ, Bool, false, List, [], ◌∷◌, ◌++◌, length, refl, sym, ap, subst, ◌∙◌, append_assoc, Option, Some, None}
use Rattle.std.specs.Prelude.{option_map, option_and_then}
use Rattle.std.proofs.lemmas.List.{append-nil}
use Rattle.qf_grammar.specs.declared.lexeme.Lexeme.{Lexeme}
use Rattle.qf_grammar.specs.declared.lexeme.Lexeme.TheVariants as lex
use Rattle.qf_grammar.specs.declared.lexeme.Key.TheVariants as key
use Rattle.qf_grammar.specs.declared.lexeme.Mark.TheVariants as mark
use Rattle.qf_grammar.specs.declared.tree.Several.{Several}
use Rattle.qf_grammar.specs.declared.tree.Item.{Item}
use Rattle.qf_grammar.specs.declared.tree.Condition.{Condition}
use Rattle.qf_grammar.specs.declared.tree.Assign.{Assign}
use Rattle.qf_grammar.specs.declared.tree.Form.{Form}
use Rattle.qf_grammar.specs.declared.tree.Form.TheVariants as form
use Rattle.qf_grammar.specs.Spelling.{Lexemes, any_of, spell_side, spell_item, spell_several, spell_tuple, spell_assign, spell_name, spell_columns, IsCondition, IsFilter, IsForm}
use Rattle.qf_grammar.specs.Reading.{one_at, name_of, is_comma, is_equal, is_set, is_where, is_delete, is_from, is_insert, is_into, is_values, is_update, is_open, is_or, behind, comma_at, several_at, side_at, closed, tuple_at, chain, conj_with, chain_with, unit_at, if_end, whole, assign_at, assigns_at, filter_or, filter_at, update_at, delete_at, names_at, tuples_at, columns_or, columns_at, values_at, insert_at, insert_or, delete_or, update_or, form_at}
use Rattle.qf_grammar.proofs.Spelled.{When, Spelled, Front, when_map, when_then, front_then, name_good, side_good, several_good, tuple_good, bracket_good, equal_front, set_front, where_front, delete_front, from_front, insert_front, into_front, values_front, update_front, open_front}
use Rattle.qf_grammar.proofs.ReadAgain.{Stops, goes_on_sum, several_again, side_again, tuple_again}
use Rattle.qf_grammar.proofs.ConditionLaws.{AreConjs, condition_good, condition_again}

-- the property holds of what was read
abbrev pub WhenWhole : {A : Type 0} → (A → Type 0) → Option A → Type 0
WhenWhole P None = Unit {0}
WhenWhole P (Some a) = P a

then_whole : {A B : Type 0} (P : A → Lexemes → Type 0) (Q : B → Type 0) (k : A × Lexemes → Option B) (o : Option (A × Lexemes)) → ((a : A) (rest : Lexemes) → P a rest → WhenWhole Q (k (a, rest))) → When P o → WhenWhole Q (option_and_then k o)
then_whole P Q k None h w = tt
then_whole P Q k (Some p) h w = h p.0 p.1 w

front_whole : {B : Type 0} (y : Lexeme) (xs : Lexemes) (Q : B → Type 0) (k : Lexemes → Option B) (o : Option Lexemes) → ((rest : Lexemes) → xs ≡ y ∷ rest → WhenWhole Q (k rest)) → Front y xs o → WhenWhole Q (option_and_then k o)
front_whole y xs Q k None h w = tt
front_whole y xs Q k (Some rest) h w = h rest w

map_whole : {A B : Type 0} (P : A → Type 0) (Q : B → Type 0) (g : A → B) (o : Option A) → ((a : A) → P a → Q (g a)) → WhenWhole P o → WhenWhole Q (option_map g o)
map_whole P Q g None h w = tt
map_whole P Q g (Some a) h w = h a w

whole_good : {A : Type 0} (f : A → Lexemes) (xs : Lexemes) (o : Option (A × Lexemes)) → When (Spelled f xs) o → WhenWhole (λ a. xs ≡ f a) (whole o)
whole_good f xs None w = tt
whole_good f xs (Some (a, [])) w = w ∙ append-nil (f a)
whole_good f xs (Some (a, x ∷ rest)) w = tt

-- ---- what is read is spelled

assign_good : (xs : Lexemes) → When (Spelled spell_assign xs) (assign_at xs)
unfolding assign_at
assign_good xs =
    when_then (Spelled spell_name xs) (Spelled spell_assign xs) (λ n. option_and_then (λ rest. option_map (λ v. (record { column = n.0; value = v.0 }, v.1)) (side_at rest)) (behind is_equal n.1)) (one_at name_of xs)
    (λ n r e. front_then (lex.Mark mark.Equal) r (Spelled spell_assign xs) (λ rest. option_map (λ v. (record { column = n; value = v.0 }, v.1)) (side_at rest)) (behind is_equal r)
    (λ r2 f. when_map (Spelled spell_side r2) (Spelled spell_assign xs) (λ v. record { column = n; value = v }) (side_at r2)
    (λ v rest g. e ∙ ap (λ t. lex.Name n ∷ t) (f ∙ ap (λ t. lex.Mark mark.Equal ∷ t) g)) (side_good r2)) (equal_front r)) (name_good xs)

assigns_good : (xs : Lexemes) → When (Spelled (spell_several spell_assign) xs) (assigns_at xs)
unfolding assigns_at
assigns_good xs = several_good spell_assign assign_at assign_good xs

condition_case : (d : ℕ) (xs : Lexemes) (o : Option (List Condition × Lexemes)) → When (AreConjs d xs) o → WhenWhole (IsCondition d xs) (whole (option_map (λ p. (any_of p.0, p.1)) o))
condition_case d xs None w = tt
condition_case d xs (Some (ts, [])) w = record { chain = w.chain; spelled = w.spelled ∙ append-nil _; nests = w.nests; tree = ap any_of w.trees }
condition_case d xs (Some (ts, x ∷ rest)) w = tt

no_filter : (xs : Lexemes) → WhenWhole (IsFilter 32 xs) (if_end None xs)
no_filter [] = refl
no_filter (x ∷ xs) = tt

filter_case : (xs : Lexemes) (o : Option Lexemes) → Front (lex.Key key.Where) xs o → WhenWhole (IsFilter 32 xs) (filter_or o xs)
filter_case xs None e = no_filter xs
filter_case xs (Some rest) e =
    map_whole (IsCondition 32 rest) (IsFilter 32 xs) (λ c. Some c) (whole (chain_with (unit_at 32) rest)) (λ c k. (rest, e, k)) (condition_case 32 rest (chain (conj_with (unit_at 32)) is_or (length rest) rest) (condition_good 32 rest))

filter_good : (xs : Lexemes) → WhenWhole (IsFilter 32 xs) (filter_at xs)
unfolding filter_at
filter_good xs = filter_case xs (behind is_where xs) (where_front xs)

update_good : (zs xs : Lexemes) → zs ≡ lex.Key key.Update ∷ xs → WhenWhole (IsForm 32 zs) (update_at xs)
unfolding update_at
update_good zs xs e =
    then_whole (Spelled spell_name xs) (IsForm 32 zs) (λ t. option_and_then (λ rest. option_and_then (λ s. option_map (λ f. form.Update t.0 s.0 f) (filter_at s.1)) (assigns_at rest)) (behind is_set t.1)) (one_at name_of xs)
    (λ t r1 f. front_whole (lex.Key key.Set) r1 (IsForm 32 zs) (λ rest. option_and_then (λ s. option_map (λ f. form.Update t s.0 f) (filter_at s.1)) (assigns_at rest)) (behind is_set r1)
    (λ r2 g. then_whole (Spelled (spell_several spell_assign) r2) (IsForm 32 zs) (λ s. option_map (λ f. form.Update t s.0 f) (filter_at s.1)) (assigns_at r2)
    (λ s r3 h. map_whole (IsFilter 32 r3) (IsForm 32 zs) (λ w. form.Update t s w) (filter_at r3)
    (λ w k. (r3, e ∙ ap (λ y. lex.Key key.Update ∷ y) (f ∙ ap (λ y. lex.Name t ∷ y) (g ∙ ap (λ y. lex.Key key.Set ∷ y) h)), k)) (filter_good r3)) (assigns_good r2)) (set_front r1)) (name_good xs)

delete_good : (zs xs : Lexemes) → zs ≡ lex.Key key.Delete ∷ xs → WhenWhole (IsForm 32 zs) (delete_at xs)
unfolding delete_at
delete_good zs xs e =
    front_whole (lex.Key key.From) xs (IsForm 32 zs) (λ rest. option_and_then (λ t. option_map (λ f. form.Delete t.0 f) (filter_at t.1)) (one_at name_of rest)) (behind is_from xs)
    (λ r1 f. then_whole (Spelled spell_name r1) (IsForm 32 zs) (λ t. option_map (λ f. form.Delete t.0 f) (filter_at t.1)) (one_at name_of r1)
    (λ t r2 g. map_whole (IsFilter 32 r2) (IsForm 32 zs) (λ w. form.Delete t w) (filter_at r2)
    (λ w k. (r2, e ∙ ap (λ y. lex.Key key.Delete ∷ y) (f ∙ ap (λ y. lex.Key key.From ∷ y) g), k)) (filter_good r2)) (name_good r1)) (from_front xs)

names_good : (xs : Lexemes) → When (Spelled (spell_several spell_name) xs) (names_at xs)
unfolding names_at
names_good xs = several_good spell_name (one_at name_of) name_good xs

tuples_good : (xs : Lexemes) → When (Spelled (spell_several (spell_tuple spell_item)) xs) (tuples_at xs)
unfolding tuples_at
tuples_good xs = several_good (spell_tuple spell_item) tuple_at tuple_good xs

columns_case : (xs : Lexemes) (o : Option Lexemes) → Front (lex.Mark mark.Open) xs o → When (Spelled spell_columns xs) (columns_or o xs)
columns_case xs None e = refl
columns_case xs (Some rest) e = when_map (Spelled (spell_tuple spell_name) xs) (Spelled spell_columns xs) (λ s. Some s) (closed (names_at rest)) (λ s after f. f) (bracket_good (spell_several spell_name) xs rest (names_at rest) e (names_good rest))

columns_good : (xs : Lexemes) → When (Spelled spell_columns xs) (columns_at xs)
unfolding columns_at
columns_good xs = columns_case xs (behind is_open xs) (open_front xs)

values_good : (zs : Lexemes) (t : ℕ) (xs : Lexemes) → zs ≡ lex.Key key.Insert ∷ lex.Key key.Into ∷ lex.Name t ∷ xs → WhenWhole (IsForm 32 zs) (values_at t xs)
unfolding values_at
values_good zs t xs e =
    then_whole (Spelled spell_columns xs) (IsForm 32 zs) (λ c. option_and_then (λ rest. option_map (λ s. form.Insert t c.0 s) (whole (tuples_at rest))) (behind is_values c.1)) (columns_at xs)
    (λ c r1 f. front_whole (lex.Key key.Values) r1 (IsForm 32 zs) (λ rest. option_map (λ s. form.Insert t c s) (whole (tuples_at rest))) (behind is_values r1)
    (λ r2 g. map_whole (λ s. r2 ≡ spell_several (spell_tuple spell_item) s) (IsForm 32 zs) (λ s. form.Insert t c s) (whole (tuples_at r2))
    (λ s h. e ∙ ap (λ y. lex.Key key.Insert ∷ lex.Key key.Into ∷ lex.Name t ∷ y) (f ∙ ap (λ y. spell_columns c ++ y) (g ∙ ap (λ y. lex.Key key.Values ∷ y) h))) (whole_good (spell_several (spell_tuple spell_item)) r2 (tuples_at r2) (tuples_good r2))) (values_front r1)) (columns_good xs)

insert_good : (zs xs : Lexemes) → zs ≡ lex.Key key.Insert ∷ xs → WhenWhole (IsForm 32 zs) (insert_at xs)
unfolding insert_at
insert_good zs xs e =
    front_whole (lex.Key key.Into) xs (IsForm 32 zs) (λ rest. option_and_then (λ t. values_at t.0 t.1) (one_at name_of rest)) (behind is_into xs)
    (λ r1 f. then_whole (Spelled spell_name r1) (IsForm 32 zs) (λ t. values_at t.0 t.1) (one_at name_of r1)
    (λ t r2 g. values_good zs t r2 (e ∙ ap (λ y. lex.Key key.Insert ∷ y) (f ∙ ap (λ y. lex.Key key.Into ∷ y) g))) (name_good r1)) (into_front xs)

insert_case : (xs : Lexemes) (o : Option Lexemes) → Front (lex.Key key.Insert) xs o → WhenWhole (IsForm 32 xs) (insert_or o)
insert_case xs None e = tt
insert_case xs (Some rest) e = insert_good xs rest e

delete_case : (xs : Lexemes) (o : Option Lexemes) → Front (lex.Key key.Delete) xs o → WhenWhole (IsForm 32 xs) (delete_or o xs)
delete_case xs None e = insert_case xs (behind is_insert xs) (insert_front xs)
delete_case xs (Some rest) e = delete_good xs rest e

update_case : (xs : Lexemes) (o : Option Lexemes) → Front (lex.Key key.Update) xs o → WhenWhole (IsForm 32 xs) (update_or o xs)
update_case xs None e = delete_case xs (behind is_delete xs) (delete_front xs)
update_case xs (Some rest) e = update_good xs rest e

form_good : (xs : Lexemes) → WhenWhole (IsForm 32 xs) (form_at xs)
unfolding form_at
form_good xs = update_case xs (behind is_update xs) (update_front xs)

-- a statement that is read is spelled so
pub form_is : (xs : Lexemes) (f : Form) → Some f ≡ form_at xs → IsForm 32 xs f
form_is xs f e = subst (WhenWhole (IsForm 32 xs)) (sym e) (form_good xs)

-- ---- what is spelled is read

assign_again : (a : Assign) (ys : Lexemes) → Stops goes_on_sum ys → assign_at (spell_assign a ++ ys) ≡ Some (a, ys)
unfolding assign_at
assign_again a ys s = ap (option_map (λ v. (record { column = a.column; value = v.0 }, v.1))) (side_again a.value ys s)

assigns_again : (s : Several Assign) (ys : Lexemes) → Stops goes_on_sum ys → Stops is_comma ys → assigns_at (spell_several spell_assign s ++ ys) ≡ Some (s, ys)
unfolding assigns_at
assigns_again s ys k c = several_again spell_assign assign_at (Stops goes_on_sum) assign_again (λ zs. refl) s ys k c

filter_again : (xs : Lexemes) (w : Option Condition) → IsFilter 32 xs w → filter_at xs ≡ Some w
unfolding filter_at
filter_again xs None k = rw k refl
filter_again xs (Some c) k = rw (k.1) (ap (λ o. option_map (λ x. Some x) (whole o)) (condition_again 32 k.0 c k.2))

filter_stops : (p : Lexeme → Bool) (xs : Lexemes) (w : Option Condition) → p (lex.Key key.Where) ≡ false → IsFilter 32 xs w → Stops p xs
filter_stops p xs None e k = subst (Stops p) (sym k) tt
filter_stops p xs (Some c) e k = subst (Stops p) (sym k.1) e

name_again : (n : ℕ) (ys : Lexemes) → Unit {0} → one_at name_of (spell_name n ++ ys) ≡ Some (n, ys)
name_again n ys u = refl

names_again : (s : Several ℕ) (ys : Lexemes) → Stops is_comma ys → names_at (spell_several spell_name s ++ ys) ≡ Some (s, ys)
unfolding names_at
names_again s ys c = several_again spell_name (one_at name_of) (λ zs. Unit {0}) name_again (λ zs. tt) s ys tt c

tuples_again : (s : Several (Several Item)) → tuples_at (spell_several (spell_tuple spell_item) s) ≡ Some (s, [])
unfolding tuples_at
tuples_again s =
    ap (several_at tuple_at (comma_at tuple_at)) (sym (append-nil (spell_several (spell_tuple spell_item) s)))
    ∙ several_again (spell_tuple spell_item) tuple_at (λ zs. Unit {0}) (λ a ys u. tuple_again a ys) (λ zs. tt) s [] tt tt

columns_again : (c : Option (Several ℕ)) (ys : Lexemes) → Stops is_open ys → columns_at (spell_columns c ++ ys) ≡ Some (c, ys)
unfolding columns_at
columns_again None [] s = refl
columns_again None (y ∷ ys) s = rw s refl
columns_again (Some c) ys s =
    ap (λ o. option_map (λ p. (Some p.0, p.1)) (closed o)) (ap names_at (append_assoc (spell_several spell_name c) (lex.Mark mark.Close ∷ []) ys) ∙ names_again c (lex.Mark mark.Close ∷ ys) refl)

values_again : (t : ℕ) (c : Option (Several ℕ)) (s : Several (Several Item)) → values_at t (spell_columns c ++ lex.Key key.Values ∷ spell_several (spell_tuple spell_item) s) ≡ Some (form.Insert t c s)
unfolding values_at
values_again t c s = rw (columns_again c (lex.Key key.Values ∷ spell_several (spell_tuple spell_item) s) refl) (ap (λ o. option_map (λ x. form.Insert t c x) (whole o)) (tuples_again s))

update_again : (t : ℕ) (s : Several Assign) (w : Option Condition) (ys : Lexemes) → IsFilter 32 ys w → update_at (lex.Name t ∷ lex.Key key.Set ∷ (spell_several spell_assign s ++ ys)) ≡ Some (form.Update t s w)
unfolding update_at
update_again t s w ys k = rw (assigns_again s ys (filter_stops goes_on_sum ys w refl k) (filter_stops is_comma ys w refl k)) (ap (option_map (λ f. form.Update t s f)) (filter_again ys w k))

delete_again : (t : ℕ) (w : Option Condition) (ys : Lexemes) → IsFilter 32 ys w → delete_at (lex.Key key.From ∷ lex.Name t ∷ ys) ≡ Some (form.Delete t w)
unfolding delete_at
delete_again t w ys k = ap (option_map (λ f. form.Delete t f)) (filter_again ys w k)

-- a statement that is spelled so is read
pub form_again : (xs : Lexemes) (f : Form) → IsForm 32 xs f → form_at xs ≡ Some f
unfolding form_at insert_at
form_again xs (form.Update t s w) k = ap form_at k.1 ∙ update_again t s w k.0 k.2
form_again xs (form.Delete t w) k = ap form_at k.1 ∙ delete_again t w k.0 k.2
form_again xs (form.Insert t c s) k = ap form_at k ∙ values_again t c s

-- lexemes spell one statement at most
pub one_form : (xs : Lexemes) (f g : Form) → IsForm 32 xs f → IsForm 32 xs g → f ≡ g
one_form xs f g h k =
    let e : ◌≡◌ {A = Option Form} (Some f) (Some g) = sym (form_again xs f h) ∙ form_again xs g k in cc

pub no_form : (xs : Lexemes) → ◌≡◌ {A = Option Form} None (form_at xs) → (f : Form) → IsForm 32 xs f → ⊥
no_form xs e f k =
    let some : ◌≡◌ {A = Option Form} None (Some f) = e ∙ form_again xs f k in cc
