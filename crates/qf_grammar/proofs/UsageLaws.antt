-- What a statement uses is what its spelling names and multiplies.
use Rattle.std.proofs.Common.{◌≡◌, ℕ, ◌<◌, Bool, true, false, cond, List, [], ◌∷◌, ◌++◌, length, refl, sym, ap, subst, ◌∙◌, append_assoc, arith, Option, Some, None}
use Rattle.std.specs.Prelude.{option_to_list, option_map}
use Rattle.std.specs.List.{flat_map}
use Rattle.std.proofs.lemmas.List.{append-nil}
use Rattle.qf_grammar.specs.declared.lexeme.Lexeme.{Lexeme}
use Rattle.qf_grammar.specs.declared.lexeme.Lexeme.TheVariants as lex
use Rattle.qf_grammar.specs.declared.lexeme.Key.{Key}
use Rattle.qf_grammar.specs.declared.lexeme.Key.TheVariants as key
use Rattle.qf_grammar.specs.declared.lexeme.Mark.{Mark}
use Rattle.qf_grammar.specs.declared.lexeme.Mark.TheVariants as mark
use Rattle.qf_grammar.specs.declared.tree.Several.{Several}
use Rattle.qf_grammar.specs.declared.tree.Factor.{Factor}
use Rattle.qf_grammar.specs.declared.tree.Factor.TheVariants as factor
use Rattle.qf_grammar.specs.declared.tree.Term.{Term}
use Rattle.qf_grammar.specs.declared.tree.Side.{Side}
use Rattle.qf_grammar.specs.declared.tree.Side.TheVariants as side
use Rattle.qf_grammar.specs.declared.tree.Item.{Item}
use Rattle.qf_grammar.specs.declared.tree.Item.TheVariants as item
use Rattle.qf_grammar.specs.declared.tree.Relation.{Relation}
use Rattle.qf_grammar.specs.declared.tree.Relation.TheVariants as relation
use Rattle.qf_grammar.specs.declared.tree.Compare.{Compare}
use Rattle.qf_grammar.specs.declared.tree.Compare.TheVariants as compare
use Rattle.qf_grammar.specs.declared.tree.Condition.{Condition}
use Rattle.qf_grammar.specs.declared.tree.Condition.TheVariants as condition
use Rattle.qf_grammar.specs.declared.tree.Assign.{Assign}
use Rattle.qf_grammar.specs.declared.tree.Form.{Form}
use Rattle.qf_grammar.specs.declared.tree.Form.TheVariants as form
use Rattle.qf_grammar.specs.declared.uses.Use.{Use}
use Rattle.qf_grammar.specs.declared.uses.Use.TheVariants as used
use Rattle.qf_grammar.specs.Spelling.{Lexemes, Unit', Conj, Chain, negated, group, test, one_unit, unit_and, one_conj, conj_or, spell_factor, spell_second, spell_term, sign_of, spell_next, spell_first, spell_sum, spell_side, spell_item, spell_more, spell_several, spell_relation, spell_not, spell_tuple, spell_compare, spell_unit, spell_conj, spell_chain, all_of, any_of, unit_tree, conj_trees, chain_trees, spell_assign, spell_name, spell_columns, IsFilter, IsForm}
use Rattle.qf_grammar.specs.Reading.{factor_of, is_star}
use Rattle.qf_grammar.specs.Usage.{product_use, term_uses, several_uses, side_uses, item_uses, compare_uses, condition_uses, filter_uses, name_uses, assign_uses, columns_uses, uses_of, single, product_at, use_or, use_at, both, product_of, product_or, uses_in}
use Rattle.qf_grammar.proofs.ReadAgain.{Stops}

-- ---- one step of the scan

-- a lexeme that no product begins with
single_case : (x y z : Lexeme) (next after : List Use) (v : Bool) → factor_of x ≡ None → is_star y ≡ v → product_or x (cond v (both (factor_of x) (factor_of z)) None) next after ≡ option_to_list (single x) ++ next
single_case x y z next after true e s = rw e refl
single_case x y z next after false e s = refl

pub other_step : (x : Lexeme) (xs : Lexemes) → factor_of x ≡ None → uses_in (x ∷ xs) ≡ option_to_list (single x) ++ uses_in xs
unfolding uses_in
other_step x [] e = refl
other_step x (y ∷ []) e = refl
other_step x (y ∷ z ∷ xs) e = single_case x y z (uses_in (y ∷ z ∷ xs)) (uses_in xs) (is_star y) e refl

-- a lexeme that no `*` follows
pub alone_step : (x : Lexeme) (xs : Lexemes) → Stops is_star xs → uses_in (x ∷ xs) ≡ option_to_list (single x) ++ uses_in xs
unfolding uses_in
alone_step x [] s = refl
alone_step x (y ∷ []) s = refl
alone_step x (y ∷ z ∷ xs) s = rw s refl

pub product_step : (l r : Factor) (xs : Lexemes) → uses_in (spell_factor l ∷ lex.Mark mark.Star ∷ spell_factor r ∷ xs) ≡ used.Product l r ∷ uses_in xs
unfolding uses_in
product_step (factor.Number m) (factor.Number n) xs = refl
product_step (factor.Number m) (factor.Name d) xs = refl
product_step (factor.Name c) (factor.Number n) xs = refl
product_step (factor.Name c) (factor.Name d) xs = refl

-- ---- spellings one behind the other

-- these lexemes use these, whatever follows that is no `*`
abbrev pub Uses : Lexemes → List Use → Type 0
Uses xs us = (rest : Lexemes) → Stops is_star rest → uses_in (xs ++ rest) ≡ us ++ uses_in rest

-- no `*` stands at their front
abbrev pub StarFree : Lexemes → Type 0
StarFree xs = (rest : Lexemes) → Stops is_star rest → Stops is_star (xs ++ rest)

pub none_used : Uses [] []
none_used rest s = refl

pub join_uses : (xs ys : Lexemes) (us vs : List Use) → Uses xs us → Uses ys vs → StarFree ys → Uses (xs ++ ys) (us ++ vs)
join_uses xs ys us vs h k free rest s =
    ap uses_in (append_assoc xs ys rest) ∙ h (ys ++ rest) (free rest s) ∙ ap (λ t. us ++ t) (k rest s) ∙ sym (append_assoc us vs (uses_in rest))

pub join_free : (xs ys : Lexemes) → StarFree xs → StarFree ys → StarFree (xs ++ ys)
join_free xs ys h k rest s = subst (Stops is_star) (sym (append_assoc xs ys rest)) (h (ys ++ rest) (k rest s))

-- a keyword or a mark before them
pub key_before : (k : Key) (ys : Lexemes) (vs : List Use) → Uses ys vs → Uses (lex.Key k ∷ ys) vs
key_before k ys vs h rest s = other_step (lex.Key k) (ys ++ rest) refl ∙ h rest s

pub mark_before : (m : Mark) (ys : Lexemes) (vs : List Use) → Uses ys vs → Uses (lex.Mark m ∷ ys) vs
mark_before m ys vs h rest s = other_step (lex.Mark m) (ys ++ rest) refl ∙ h rest s

pub name_before : (c : ℕ) (ys : Lexemes) (vs : List Use) → Uses ys vs → StarFree ys → Uses (lex.Name c ∷ ys) (used.Name c ∷ vs)
name_before c ys vs h free rest s = alone_step (lex.Name c) (ys ++ rest) (free rest s) ∙ ap (λ t. used.Name c ∷ t) (h rest s)

pub mark_last : (m : Mark) (xs : Lexemes) (us : List Use) → is_star (lex.Mark m) ≡ false → Uses xs us → Uses (xs ++ lex.Mark m ∷ []) us
mark_last m xs us e h rest s =
    ap uses_in (append_assoc xs (lex.Mark m ∷ []) rest) ∙ h (lex.Mark m ∷ rest) e ∙ ap (λ t. us ++ t) (other_step (lex.Mark m) rest refl)

-- ---- several parts

flat_free : {A : Type 0} (spell : A → Lexemes) → ((a : A) → StarFree (spell a)) → (bs : List A) → StarFree (flat_map spell bs)
flat_free spell free [] = λ rest s. s
flat_free spell free (a ∷ bs) = join_free (spell a) (flat_map spell bs) (free a) (flat_free spell free bs)

more_uses : {A : Type 0} (spell : A → Lexemes) (uses : A → List Use) → ((a : A) → Uses (spell a) (uses a)) → ((a : A) → StarFree (spell a)) → (bs : List A) → Uses (flat_map spell bs) (flat_map uses bs)
more_uses spell uses h free [] = none_used
more_uses spell uses h free (a ∷ bs) = join_uses (spell a) (flat_map spell bs) (uses a) (flat_map uses bs) (h a) (more_uses spell uses h free bs) (flat_free spell free bs)

pub several_used : {A : Type 0} (spell : A → Lexemes) (uses : A → List Use) → ((a : A) → Uses (spell a) (uses a)) → (s : Several A) → Uses (spell_several spell s) (several_uses uses s)
several_used spell uses h s =
    join_uses (spell s.first) (flat_map (spell_more spell) s.others) (uses s.first) (flat_map uses s.others) (h s.first)
    (more_uses (spell_more spell) uses (λ a. mark_before mark.Comma (spell a) (uses a) (h a)) (λ a rest e. refl) s.others)
    (flat_free (spell_more spell) (λ a rest e. refl) s.others)

pub several_free : {A : Type 0} (spell : A → Lexemes) → ((a : A) → StarFree (spell a)) → (s : Several A) → StarFree (spell_several spell s)
several_free spell free s = join_free (spell s.first) (flat_map (spell_more spell) s.others) (free s.first) (flat_free (spell_more spell) (λ a rest e. refl) s.others)

pub tuple_used : {A : Type 0} (spell : A → Lexemes) (uses : A → List Use) → ((a : A) → Uses (spell a) (uses a)) → (s : Several A) → Uses (spell_tuple spell s) (several_uses uses s)
tuple_used spell uses h s =
    mark_before mark.Open (spell_several spell s ++ lex.Mark mark.Close ∷ []) (several_uses uses s) (mark_last mark.Close (spell_several spell s) (several_uses uses s) refl (several_used spell uses h s))

-- ---- sums, sides and comparisons

term_case : (l : Factor) (r : Option Factor) → Uses (spell_factor l ∷ spell_second r) (product_use l r ∷ [])
term_case (factor.Number n) None rest s = alone_step (lex.Number n) rest s
term_case (factor.Name c) None rest s = alone_step (lex.Name c) rest s
term_case l (Some r) rest s = product_step l r rest

pub term_used : (t : Term) → Uses (spell_term t) (term_uses t)
term_used t = term_case t.left t.right

factor_free : (l : Factor) → is_star (spell_factor l) ≡ false
factor_free (factor.Number n) = refl
factor_free (factor.Name c) = refl

term_free : (t : Term) → StarFree (spell_term t)
term_free t rest s = factor_free t.left

sign_free : (b : Bool) → is_star (lex.Mark (sign_of b)) ≡ false
sign_free true = refl
sign_free false = refl

first_used : (b : Bool) (ys : Lexemes) (vs : List Use) → Uses ys vs → Uses (spell_first b ++ ys) vs
first_used true ys vs h = mark_before mark.Minus ys vs h
first_used false ys vs h = h

first_free : (b : Bool) (ys : Lexemes) → StarFree ys → StarFree (spell_first b ++ ys)
first_free true ys h = λ rest s. refl
first_free false ys h = h

pub sum_used : (s : Several Term) → Uses (spell_sum s) (several_uses term_uses s)
sum_used s =
    first_used s.first.minus (spell_term s.first ++ flat_map spell_next s.others) (several_uses term_uses s)
    (join_uses (spell_term s.first) (flat_map spell_next s.others) (term_uses s.first) (flat_map term_uses s.others) (term_used s.first)
    (more_uses spell_next term_uses (λ t. mark_before (sign_of t.minus) (spell_term t) (term_uses t) (term_used t)) (λ t rest e. sign_free t.minus) s.others)
    (flat_free spell_next (λ t rest e. sign_free t.minus) s.others))

pub sum_free : (s : Several Term) → StarFree (spell_sum s)
sum_free s = first_free s.first.minus (spell_term s.first ++ flat_map spell_next s.others) (λ rest e. factor_free s.first.left)

pub side_used : (l : Side) → Uses (spell_side l) (side_uses l)
side_used (side.Sum s) = sum_used s
side_used (side.Text t) = λ rest e. alone_step (lex.Text t) rest e

pub side_free : (l : Side) → StarFree (spell_side l)
side_free (side.Sum s) = sum_free s
side_free (side.Text t) = λ rest e. refl

pub item_used : (i : Item) → Uses (spell_item i) (item_uses i)
item_used (item.Number n) rest e = alone_step (lex.Number n) rest e
item_used (item.Text t) rest e = alone_step (lex.Text t) rest e

not_used : (b : Bool) (ys : Lexemes) (vs : List Use) → Uses ys vs → Uses (spell_not b ++ ys) vs
not_used true ys vs h = key_before key.Not ys vs h
not_used false ys vs h = h

not_free : (b : Bool) (k : Key) (ys : Lexemes) → StarFree (spell_not b ++ lex.Key k ∷ ys)
not_free true k ys rest e = refl
not_free false k ys rest e = refl

relation_free : (r : Relation) → is_star (lex.Mark (spell_relation r)) ≡ false
relation_free relation.Equal = refl
relation_free relation.Unequal = refl
relation_free relation.Less = refl
relation_free relation.LessEqual = refl
relation_free relation.Greater = refl
relation_free relation.GreaterEqual = refl

pub compare_used : (c : Compare) → Uses (spell_compare c) (compare_uses c)
compare_used (compare.Relate l r m) =
    join_uses (spell_side l) (lex.Mark (spell_relation r) ∷ spell_side m) (side_uses l) (side_uses m) (side_used l)
    (mark_before (spell_relation r) (spell_side m) (side_uses m) (side_used m)) (λ rest e. relation_free r)
compare_used (compare.Between x n low high) =
    join_uses (spell_sum x) (spell_not n ++ (lex.Key key.Between ∷ (spell_sum low ++ lex.Key key.And ∷ spell_sum high))) (several_uses term_uses x) (several_uses term_uses low ++ several_uses term_uses high) (sum_used x)
    (not_used n (lex.Key key.Between ∷ (spell_sum low ++ lex.Key key.And ∷ spell_sum high)) (several_uses term_uses low ++ several_uses term_uses high)
    (key_before key.Between (spell_sum low ++ lex.Key key.And ∷ spell_sum high) (several_uses term_uses low ++ several_uses term_uses high)
    (join_uses (spell_sum low) (lex.Key key.And ∷ spell_sum high) (several_uses term_uses low) (several_uses term_uses high) (sum_used low)
    (key_before key.And (spell_sum high) (several_uses term_uses high) (sum_used high)) (λ rest e. refl))))
    (not_free n key.Between (spell_sum low ++ lex.Key key.And ∷ spell_sum high))
compare_used (compare.Within x n items) =
    join_uses (spell_side x) (spell_not n ++ (lex.Key key.In ∷ spell_tuple spell_item items)) (side_uses x) (several_uses item_uses items) (side_used x)
    (not_used n (lex.Key key.In ∷ spell_tuple spell_item items) (several_uses item_uses items)
    (key_before key.In (spell_tuple spell_item items) (several_uses item_uses items) (tuple_used spell_item item_uses item_used items)))
    (not_free n key.In (spell_tuple spell_item items))

pub compare_free : (c : Compare) → StarFree (spell_compare c)
compare_free (compare.Relate l r m) = join_free (spell_side l) (lex.Mark (spell_relation r) ∷ spell_side m) (side_free l) (λ rest e. relation_free r)
compare_free (compare.Between x n low high) =
    join_free (spell_sum x) (spell_not n ++ (lex.Key key.Between ∷ (spell_sum low ++ lex.Key key.And ∷ spell_sum high))) (sum_free x) (not_free n key.Between (spell_sum low ++ lex.Key key.And ∷ spell_sum high))
compare_free (compare.Within x n items) = join_free (spell_side x) (spell_not n ++ (lex.Key key.In ∷ spell_tuple spell_item items)) (side_free x) (not_free n key.In (spell_tuple spell_item items))

-- ---- conditions

pub uses_all : (parts : List Condition) → condition_uses (condition.All parts) ≡ flat_map condition_uses parts
unfolding Rattle.qf_grammar.specs.declared.tree.Condition.TheBlock.hidden-the_row-Condition-0 denote.Hole.Carrier.hidden
uses_all [] = refl
uses_all (part ∷ parts) = ap (λ us. condition_uses part ++ us) (uses_all parts)

pub uses_any : (parts : List Condition) → condition_uses (condition.Any parts) ≡ flat_map condition_uses parts
unfolding Rattle.qf_grammar.specs.declared.tree.Condition.TheBlock.hidden-the_row-Condition-0 denote.Hole.Carrier.hidden
uses_any [] = refl
uses_any (part ∷ parts) = ap (λ us. condition_uses part ++ us) (uses_any parts)

pub uses_not : (part : Condition) → condition_uses (condition.Not part) ≡ condition_uses part
unfolding Rattle.qf_grammar.specs.declared.tree.Condition.TheBlock.hidden-the_row-Condition-0 denote.Hole.Carrier.hidden Rattle.qf_grammar.specs.declared.tree.Condition.TheBlock.hidden-the_row-Condition-1
uses_not part = append-nil (condition_uses part)

pub all_uses : (parts : List Condition) → condition_uses (all_of parts) ≡ flat_map condition_uses parts
all_uses [] = uses_all []
all_uses (part ∷ []) = sym (append-nil (condition_uses part))
all_uses (part ∷ next ∷ parts) = uses_all (part ∷ next ∷ parts)

pub any_uses : (parts : List Condition) → condition_uses (any_of parts) ≡ flat_map condition_uses parts
any_uses [] = uses_any []
any_uses (part ∷ []) = sym (append-nil (condition_uses part))
any_uses (part ∷ next ∷ parts) = uses_any (part ∷ next ∷ parts)

mutual
  unit_free : (u : Unit') → StarFree (spell_unit u)
  unit_free (negated u) = λ rest e. refl
  unit_free (group c) = λ rest e. refl
  unit_free (test t) = compare_free t

  conj_free : (c : Conj) → StarFree (spell_conj c)
  conj_free (one_unit u) = unit_free u
  conj_free (unit_and u c) = join_free (spell_unit u) (lex.Key key.And ∷ spell_conj c) (unit_free u) (λ rest e. refl)

along : (xs : Lexemes) (us vs : List Use) → us ≡ vs → Uses xs us → Uses xs vs
along xs us vs e h = subst (Uses xs) e h

mutual
  unit_used : (u : Unit') → Uses (spell_unit u) (condition_uses (unit_tree u))
  unit_used (negated u) =
      along (lex.Key key.Not ∷ spell_unit u) (condition_uses (unit_tree u)) (condition_uses (condition.Not (unit_tree u))) (sym (uses_not (unit_tree u)))
      (key_before key.Not (spell_unit u) (condition_uses (unit_tree u)) (unit_used u))
  unit_used (group c) =
      along (lex.Mark mark.Open ∷ (spell_chain c ++ lex.Mark mark.Close ∷ [])) (flat_map condition_uses (chain_trees c)) (condition_uses (any_of (chain_trees c))) (sym (any_uses (chain_trees c)))
      (mark_before mark.Open (spell_chain c ++ lex.Mark mark.Close ∷ []) (flat_map condition_uses (chain_trees c)) (mark_last mark.Close (spell_chain c) (flat_map condition_uses (chain_trees c)) refl (chain_used c)))
  unit_used (test t) = compare_used t

  conj_used : (c : Conj) → Uses (spell_conj c) (flat_map condition_uses (conj_trees c))
  conj_used (one_unit u) = along (spell_unit u) (condition_uses (unit_tree u)) (condition_uses (unit_tree u) ++ []) (sym (append-nil (condition_uses (unit_tree u)))) (unit_used u)
  conj_used (unit_and u c) =
      join_uses (spell_unit u) (lex.Key key.And ∷ spell_conj c) (condition_uses (unit_tree u)) (flat_map condition_uses (conj_trees c)) (unit_used u)
      (key_before key.And (spell_conj c) (flat_map condition_uses (conj_trees c)) (conj_used c)) (λ rest e. refl)

  chain_used : (c : Chain) → Uses (spell_chain c) (flat_map condition_uses (chain_trees c))
  chain_used (one_conj c) =
      along (spell_conj c) (flat_map condition_uses (conj_trees c)) (condition_uses (all_of (conj_trees c)) ++ []) (sym (append-nil (condition_uses (all_of (conj_trees c))) ∙ all_uses (conj_trees c))) (conj_used c)
  chain_used (conj_or c d) =
      join_uses (spell_conj c) (lex.Key key.Or ∷ spell_chain d) (condition_uses (all_of (conj_trees c))) (flat_map condition_uses (chain_trees d))
      (along (spell_conj c) (flat_map condition_uses (conj_trees c)) (condition_uses (all_of (conj_trees c))) (sym (all_uses (conj_trees c))) (conj_used c))
      (key_before key.Or (spell_chain d) (flat_map condition_uses (chain_trees d)) (chain_used d)) (λ rest e. refl)

-- ---- statements

filter_used : (xs : Lexemes) (f : Option Condition) → IsFilter 32 xs f → Uses xs (filter_uses f)
filter_used xs None e = subst (λ ys. Uses ys []) (sym e) none_used
filter_used xs (Some c) h =
    let k = h.2 in
    let spelled : Uses (spell_chain k.chain) (condition_uses c) = along (spell_chain k.chain) (flat_map condition_uses (chain_trees k.chain)) (condition_uses c) (sym (any_uses (chain_trees k.chain)) ∙ ap condition_uses (sym k.tree)) (chain_used k.chain) in
    let whole : Uses (lex.Key key.Where ∷ spell_chain k.chain) (condition_uses c) = key_before key.Where (spell_chain k.chain) (condition_uses c) spelled in
    subst (λ ys. Uses ys (condition_uses c)) (ap (λ ys. lex.Key key.Where ∷ ys) (sym k.spelled) ∙ sym h.1) whole

filter_free : (xs : Lexemes) (f : Option Condition) → IsFilter 32 xs f → StarFree xs
filter_free xs None e = subst StarFree (sym e) (λ rest s. s)
filter_free xs (Some c) h = subst StarFree (sym h.1) (λ rest s. refl)

assign_used : (a : Assign) → Uses (spell_assign a) (assign_uses a)
assign_used a = name_before a.column (lex.Mark mark.Equal ∷ spell_side a.value) (side_uses a.value) (mark_before mark.Equal (spell_side a.value) (side_uses a.value) (side_used a.value)) (λ rest e. refl)

name_used : (n : ℕ) → Uses (spell_name n) (name_uses n)
name_used n rest e = alone_step (lex.Name n) rest e

columns_used : (c : Option (Several ℕ)) → Uses (spell_columns c) (columns_uses c)
columns_used None = none_used
columns_used (Some names) = tuple_used spell_name name_uses name_used names

columns_free : (c : Option (Several ℕ)) (ys : Lexemes) → StarFree ys → StarFree (spell_columns c ++ ys)
columns_free None ys h = h
columns_free (Some names) ys h = λ rest e. refl

pub form_used : (xs : Lexemes) (f : Form) → IsForm 32 xs f → Uses xs (uses_of f)
form_used xs (form.Update t s w) h =
    let rest = join_uses (spell_several spell_assign s) h.0 (several_uses assign_uses s) (filter_uses w) (several_used spell_assign assign_uses assign_used s) (filter_used h.0 w h.2) (filter_free h.0 w h.2) in
    let set = key_before key.Set (spell_several spell_assign s ++ h.0) (several_uses assign_uses s ++ filter_uses w) rest in
    let named = name_before t (lex.Key key.Set ∷ (spell_several spell_assign s ++ h.0)) (several_uses assign_uses s ++ filter_uses w) set (λ rest e. refl) in
    subst (λ ys. Uses ys (uses_of (form.Update t s w))) (sym h.1) (key_before key.Update (lex.Name t ∷ lex.Key key.Set ∷ (spell_several spell_assign s ++ h.0)) (uses_of (form.Update t s w)) named)
form_used xs (form.Delete t w) h =
    let named = name_before t h.0 (filter_uses w) (filter_used h.0 w h.2) (filter_free h.0 w h.2) in
    subst (λ ys. Uses ys (uses_of (form.Delete t w))) (sym h.1) (key_before key.Delete (lex.Key key.From ∷ lex.Name t ∷ h.0) (uses_of (form.Delete t w)) (key_before key.From (lex.Name t ∷ h.0) (uses_of (form.Delete t w)) named))
form_used xs (form.Insert t c s) h =
    let tuples = several_used (spell_tuple spell_item) (several_uses item_uses) (tuple_used spell_item item_uses item_used) s in
    let values = key_before key.Values (spell_several (spell_tuple spell_item) s) (several_uses (several_uses item_uses) s) tuples in
    let behind = join_uses (spell_columns c) (lex.Key key.Values ∷ spell_several (spell_tuple spell_item) s) (columns_uses c) (several_uses (several_uses item_uses) s) (columns_used c) values (λ rest e. refl) in
    let named = name_before t (spell_columns c ++ lex.Key key.Values ∷ spell_several (spell_tuple spell_item) s) (columns_uses c ++ several_uses (several_uses item_uses) s) behind (columns_free c (lex.Key key.Values ∷ spell_several (spell_tuple spell_item) s) (λ rest e. refl)) in
    subst (λ ys. Uses ys (uses_of (form.Insert t c s))) (sym h) (key_before key.Insert (lex.Key key.Into ∷ lex.Name t ∷ (spell_columns c ++ lex.Key key.Values ∷ spell_several (spell_tuple spell_item) s)) (uses_of (form.Insert t c s)) (key_before key.Into (lex.Name t ∷ (spell_columns c ++ lex.Key key.Values ∷ spell_several (spell_tuple spell_item) s)) (uses_of (form.Insert t c s)) named))

-- a statement uses what its lexemes name and multiply
pub form_uses : (xs : Lexemes) (f : Form) → IsForm 32 xs f → uses_in xs ≡ uses_of f
unfolding uses_in
form_uses xs f h = ap uses_in (sym (append-nil xs)) ∙ form_used xs f h [] tt ∙ append-nil (uses_of f)

-- ---- the scan, step by step

abbrev pub Step : Lexemes → Option (Option Use × Lexemes) → Type 0
Step xs None = uses_in xs ≡ []
Step xs (Some p) = (uses_in xs ≡ option_to_list p.0 ++ uses_in p.1) × (length p.1 < length xs)

abbrev Product : Type 0
Product = Option ((Factor × Factor) × Lexemes)

one_case : (x : Lexeme) (o : Option Factor) → factor_of x ≡ o → ◌≡◌ {A = Product} (product_at (x ∷ [])) None
one_case x None e = rw e refl
one_case x (Some l) e = rw e refl

two_case : (x y : Lexeme) (o : Option Factor) (v : Bool) → factor_of x ≡ o → is_star y ≡ v → ◌≡◌ {A = Product} (product_at (x ∷ y ∷ [])) None
two_case x y None v e f = rw e refl
two_case x y (Some l) true e f = rw (e, f) refl
two_case x y (Some l) false e f = rw (e, f) refl

three_case : (x y z : Lexeme) (xs : Lexemes) (o : Option Factor) (v : Bool) (q : Option Factor) → factor_of x ≡ o → is_star y ≡ v → factor_of z ≡ q → ◌≡◌ {A = Product} (product_at (x ∷ y ∷ z ∷ xs)) (option_map (λ p. (p, xs)) (product_of x y z))
three_case x y z xs None true q e f g = rw (e, f) refl
three_case x y z xs None false q e f g = rw (e, f) refl
three_case x y z xs (Some l) false q e f g = rw (e, f) refl
three_case x y z xs (Some l) true None e f g = rw (e, f, g) refl
three_case x y z xs (Some l) true (Some r) e f g = rw (e, f, g) refl

three_step : (x y z : Lexeme) (xs : Lexemes) (o : Option (Factor × Factor)) → product_of x y z ≡ o → Step (x ∷ y ∷ z ∷ xs) (use_or (option_map (λ p. (p, xs)) o) (x ∷ y ∷ z ∷ xs))
unfolding uses_in
three_step x y z xs None e = (rw e refl, omega arith)
three_step x y z xs (Some p) e = (rw e refl, omega arith)

step : (xs : Lexemes) → Step xs (use_at xs)
unfolding uses_in
step [] = refl
step (x ∷ []) = subst (λ (o : Product). Step (x ∷ []) (use_or o (x ∷ []))) (sym (one_case x (factor_of x) refl)) (refl, omega arith)
step (x ∷ y ∷ []) = subst (λ (o : Product). Step (x ∷ y ∷ []) (use_or o (x ∷ y ∷ []))) (sym (two_case x y (factor_of x) (is_star y) refl refl)) (refl, omega arith)
step (x ∷ y ∷ z ∷ xs) = subst (λ (o : Product). Step (x ∷ y ∷ z ∷ xs) (use_or o (x ∷ y ∷ z ∷ xs))) (sym (three_case x y z xs (factor_of x) (is_star y) (factor_of z) refl refl refl)) (three_step x y z xs (product_of x y z) refl)

pub next_step : (xs : Lexemes) (u : Option Use) (rest : Lexemes) → ◌≡◌ {A = Option (Option Use × Lexemes)} (Some (u, rest)) (use_at xs) → (uses_in xs ≡ option_to_list u ++ uses_in rest) × (length rest < length xs)
next_step xs u rest e = subst (Step xs) (sym e) (step xs)

pub no_step : (xs : Lexemes) → ◌≡◌ {A = Option (Option Use × Lexemes)} None (use_at xs) → uses_in xs ≡ []
no_step xs e = subst (Step xs) (sym e) (step xs)

pub one_more : (found : List Use) (xs : Lexemes) (u : Option Use) (rest : Lexemes) (all : List Use) → ◌≡◌ {A = Option (Option Use × Lexemes)} (Some (u, rest)) (use_at xs) → found ++ uses_in xs ≡ all → (found ++ option_to_list u) ++ uses_in rest ≡ all
one_more found xs u rest all e h = append_assoc found (option_to_list u) (uses_in rest) ∙ ap (λ t. found ++ t) (sym (next_step xs u rest e).0) ∙ h

pub all_found : (found : List Use) (xs : Lexemes) (all : List Use) → ◌≡◌ {A = Option (Option Use × Lexemes)} None (use_at xs) → found ++ uses_in xs ≡ all → found ≡ all
all_found found xs all e h = sym (append-nil found) ∙ ap (λ t. found ++ t) (sym (no_step xs e)) ∙ h
