-- The expressions of a lowered statement, and what they use.
use Rattle.std.proofs.Common.{◌≡◌, ℕ, ◌<◌, ◌≤◌, Bool, true, false, List, [], ◌∷◌, ◌++◌, map, refl, sym, ap, subst, ◌∙◌, Option, Some, None}
use Rattle.std.specs.Prelude.{option_map}
use Rattle.std.specs.Prelude.{ℤ, unsigned_abs}
use Rattle.std.specs.List.{AllByRecursion, flat_map}
use Rattle.std.proofs.lemmas.List.{append-nil}
use Rattle.std.proofs.lemmas.List.Concat.{flat_map-append}
use Rattle.qf_ir.specs.declared.ast.Expr.{Expr}
use Rattle.qf_ir.specs.declared.ast.Expr.TheVariants as expr
use Rattle.qf_ir.specs.declared.ast.Cond.{Cond}
use Rattle.qf_ir.specs.declared.ast.Cond.TheVariants as cond
use Rattle.qf_ir.specs.Parts.{tests_of, exprs_in, where_of, exprs_of}
use Rattle.qf_grammar.specs.declared.tree.Several.{Several}
use Rattle.qf_grammar.specs.declared.tree.Factor.TheVariants as factor
use Rattle.qf_grammar.specs.declared.tree.Term.{Term}
use Rattle.qf_grammar.specs.declared.tree.Side.{Side}
use Rattle.qf_grammar.specs.declared.tree.Side.TheVariants as side
use Rattle.qf_grammar.specs.declared.tree.Item.{Item}
use Rattle.qf_grammar.specs.declared.tree.Compare.{Compare}
use Rattle.qf_grammar.specs.declared.tree.Compare.TheVariants as compare
use Rattle.qf_grammar.specs.declared.tree.Condition.{Condition}
use Rattle.qf_grammar.specs.declared.tree.Assign.{Assign}
use Rattle.qf_grammar.specs.declared.tree.Form.{Form}
use Rattle.qf_grammar.specs.declared.tree.Form.TheVariants as form
use Rattle.qf_grammar.specs.declared.uses.Use.{Use}
use Rattle.qf_grammar.specs.declared.uses.Use.TheVariants as used
use Rattle.qf_grammar.specs.Usage.{term_uses, several_uses, side_uses, item_uses, compare_uses, condition_uses, filter_uses, assign_uses, columns_uses, name_uses, uses_of}
use Rattle.qf_grammar.specs.Spelling.{Lexemes, Unit', Conj, Chain, negated, group, test, one_unit, unit_and, one_conj, conj_or, all_of, any_of, unit_tree, conj_trees, chain_trees, IsFilter, IsForm}
use Rattle.qf_grammar.proofs.UsageLaws.{uses_not, all_uses, any_uses}
use Rattle.qf_log.proofs.Conditions.{lowered_all, lowered_any, lowered_not}
use Rattle.qf_log.specs.Parameters.{alone, parameters_in, number_at}
use Rattle.qf_log.specs.Lowered.{lowered_several, lowered_sum, lowered_side, lowered_item, not_if, lowered_compare, lowered_condition, lowered_assign, lowered_form}
use Rattle.qf_log.proofs.CondParts.{tests_all, tests_any, tests_not}

-- what becomes an expression
pub data Part : Type 0 where
  sum : Several Term → Part
  word : ℕ → Part
  one : Item → Part

abbrev pub part_uses : Part → List Use
part_uses (sum s) = several_uses term_uses s
part_uses (word t) = used.Text t ∷ []
part_uses (one i) = item_uses i

module _ (numbers : List ℤ) (ids : List ℕ) where
  abbrev pub part_expr : Part → Expr
  part_expr (sum s) = lowered_sum numbers ids s
  part_expr (word t) = expr.Word t
  part_expr (one i) = lowered_item ids i

abbrev pub side_part : Side → Part
side_part (side.Sum s) = sum s
side_part (side.Text t) = word t

abbrev pub items_parts : Several Item → List Part
items_parts items = one items.first ∷ map (λ i. one i) items.others

abbrev pub compare_parts : Compare → List Part
compare_parts (compare.Relate l r m) = side_part l ∷ side_part m ∷ []
compare_parts (compare.Between x n low high) = sum x ∷ sum low ∷ sum high ∷ []
compare_parts (compare.Within x n items) = side_part x ∷ items_parts items

abbrev mutual
  pub unit_parts : Unit' → List Part
  unit_parts (negated u) = unit_parts u
  unit_parts (group c) = chain_parts c
  unit_parts (test t) = compare_parts t

  pub conj_parts : Conj → List Part
  conj_parts (one_unit u) = unit_parts u
  conj_parts (unit_and u c) = unit_parts u ++ conj_parts c

  pub chain_parts : Chain → List Part
  chain_parts (one_conj c) = conj_parts c
  chain_parts (conj_or c d) = conj_parts c ++ chain_parts d

-- ---- what they use

side_used : (s : Side) → side_uses s ≡ part_uses (side_part s)
side_used (side.Sum s) = refl
side_used (side.Text t) = refl

items_used : (items : List Item) → flat_map item_uses items ≡ flat_map part_uses (map (λ i. one i) items)
items_used [] = refl
items_used (i ∷ items) = ap (λ us. item_uses i ++ us) (items_used items)

compare_used : (c : Compare) → compare_uses c ≡ flat_map part_uses (compare_parts c)
compare_used (compare.Relate l r m) = ap (λ us. us ++ side_uses m) (side_used l) ∙ ap (λ us. part_uses (side_part l) ++ us) (side_used m ∙ sym (append-nil (part_uses (side_part m))))
compare_used (compare.Between x n low high) = ap (λ us. several_uses term_uses x ++ (several_uses term_uses low ++ us)) (sym (append-nil (several_uses term_uses high)))
compare_used (compare.Within x n items) = ap (λ us. us ++ several_uses item_uses items) (side_used x) ∙ ap (λ us. part_uses (side_part x) ++ (item_uses items.first ++ us)) (items_used items.others)

abbrev Used : List Part → List Use
Used parts = flat_map part_uses parts

join_used : (us vs : List Use) (xs ys : List Part) → us ≡ Used xs → vs ≡ Used ys → us ++ vs ≡ Used (xs ++ ys)
join_used us vs xs ys e f = ap (λ t. t ++ vs) e ∙ ap (λ t. Used xs ++ t) f ∙ sym (flat_map-append part_uses xs ys)

mutual
  unit_used : (u : Unit') → condition_uses (unit_tree u) ≡ Used (unit_parts u)
  unit_used (negated u) = uses_not (unit_tree u) ∙ unit_used u
  unit_used (group c) = any_uses (chain_trees c) ∙ chain_used c
  unit_used (test t) = compare_used t

  conj_used : (c : Conj) → flat_map condition_uses (conj_trees c) ≡ Used (conj_parts c)
  conj_used (one_unit u) = append-nil (condition_uses (unit_tree u)) ∙ unit_used u
  conj_used (unit_and u c) = join_used (condition_uses (unit_tree u)) (flat_map condition_uses (conj_trees c)) (unit_parts u) (conj_parts c) (unit_used u) (conj_used c)

  pub chain_used : (c : Chain) → flat_map condition_uses (chain_trees c) ≡ Used (chain_parts c)
  chain_used (one_conj c) = append-nil (condition_uses (all_of (conj_trees c))) ∙ all_uses (conj_trees c) ∙ conj_used c
  chain_used (conj_or c d) = join_used (condition_uses (all_of (conj_trees c))) (flat_map condition_uses (chain_trees d)) (conj_parts c) (chain_parts d) (all_uses (conj_trees c) ∙ conj_used c) (chain_used d)

-- ---- their expressions

map_append : {A B : Type 0} (f : A → B) (xs ys : List A) → map f (xs ++ ys) ≡ map f xs ++ map f ys
map_append f [] ys = refl
map_append f (x ∷ xs) ys = ap (λ t. f x ∷ t) (map_append f xs ys)

module _ (numbers : List ℤ) (ids : List ℕ) where
  abbrev Made : List Part → List Expr
  Made parts = map (part_expr numbers ids) parts

  -- the expressions of a condition
  abbrev exprs : Cond → List Expr
  exprs c = flat_map exprs_in (tests_of c)

  abbrev lowered : Condition → List Expr
  lowered c = exprs (lowered_condition numbers ids c)

  side_made : (s : Side) → lowered_side numbers ids s ≡ part_expr numbers ids (side_part s)
  side_made (side.Sum s) = refl
  side_made (side.Text t) = refl

  items_made : (items : List Item) → map (lowered_item ids) items ≡ Made (map (λ i. one i) items)
  items_made [] = refl
  items_made (i ∷ items) = ap (λ t. lowered_item ids i ∷ t) (items_made items)

  not_made : (n : Bool) (c : Cond) → exprs (not_if n c) ≡ exprs c
  not_made true c = ap (flat_map exprs_in) (tests_not c)
  not_made false c = refl

  compare_made : (c : Compare) → exprs (lowered_compare numbers ids c) ≡ Made (compare_parts c)
  compare_made (compare.Relate l r m) = ap (λ e. e ∷ lowered_side numbers ids m ∷ []) (side_made l) ∙ ap (λ e. part_expr numbers ids (side_part l) ∷ e ∷ []) (side_made m)
  compare_made (compare.Between x n low high) = not_made n (cond.Between (lowered_sum numbers ids x) (lowered_sum numbers ids low) (lowered_sum numbers ids high))
  compare_made (compare.Within x n items) =
      not_made n (cond.Within (lowered_side numbers ids x) (lowered_several (lowered_item ids) items))
      ∙ append-nil (lowered_side numbers ids x ∷ lowered_several (lowered_item ids) items)
      ∙ ap (λ e. e ∷ lowered_several (lowered_item ids) items) (side_made x)
      ∙ ap (λ t. part_expr numbers ids (side_part x) ∷ lowered_item ids items.first ∷ t) (items_made items.others)

  parts_made : (cs : List Condition) → flat_map exprs_in (flat_map tests_of (map (lowered_condition numbers ids) cs)) ≡ flat_map lowered cs
  parts_made [] = refl
  parts_made (c ∷ cs) = flat_map-append exprs_in (tests_of (lowered_condition numbers ids c)) (flat_map tests_of (map (lowered_condition numbers ids) cs)) ∙ ap (λ t. lowered c ++ t) (parts_made cs)

  all_made : (cs : List Condition) → lowered (all_of cs) ≡ flat_map lowered cs
  all_made [] = ap exprs (lowered_all numbers ids []) ∙ ap (flat_map exprs_in) (tests_all [])
  all_made (c ∷ []) = sym (append-nil (lowered c))
  all_made (c ∷ d ∷ cs) = ap exprs (lowered_all numbers ids (c ∷ d ∷ cs)) ∙ ap (flat_map exprs_in) (tests_all (map (lowered_condition numbers ids) (c ∷ d ∷ cs))) ∙ parts_made (c ∷ d ∷ cs)

  any_made : (cs : List Condition) → lowered (any_of cs) ≡ flat_map lowered cs
  any_made [] = ap exprs (lowered_any numbers ids []) ∙ ap (flat_map exprs_in) (tests_any [])
  any_made (c ∷ []) = sym (append-nil (lowered c))
  any_made (c ∷ d ∷ cs) = ap exprs (lowered_any numbers ids (c ∷ d ∷ cs)) ∙ ap (flat_map exprs_in) (tests_any (map (lowered_condition numbers ids) (c ∷ d ∷ cs))) ∙ parts_made (c ∷ d ∷ cs)

  join_made : (es fs : List Expr) (xs ys : List Part) → es ≡ Made xs → fs ≡ Made ys → es ++ fs ≡ Made (xs ++ ys)
  join_made es fs xs ys e f = ap (λ t. t ++ fs) e ∙ ap (λ t. Made xs ++ t) f ∙ sym (map_append (part_expr numbers ids) xs ys)

  mutual
    unit_made : (u : Unit') → lowered (unit_tree u) ≡ Made (unit_parts u)
    unit_made (negated u) = ap exprs (lowered_not numbers ids (unit_tree u)) ∙ ap (flat_map exprs_in) (tests_not (lowered_condition numbers ids (unit_tree u))) ∙ unit_made u
    unit_made (group c) = any_made (chain_trees c) ∙ chain_made c
    unit_made (test t) = compare_made t

    conj_made : (c : Conj) → flat_map lowered (conj_trees c) ≡ Made (conj_parts c)
    conj_made (one_unit u) = append-nil (lowered (unit_tree u)) ∙ unit_made u
    conj_made (unit_and u c) = join_made (lowered (unit_tree u)) (flat_map lowered (conj_trees c)) (unit_parts u) (conj_parts c) (unit_made u) (conj_made c)

    pub chain_made : (c : Chain) → flat_map lowered (chain_trees c) ≡ Made (chain_parts c)
    chain_made (one_conj c) = append-nil (lowered (all_of (conj_trees c))) ∙ all_made (conj_trees c) ∙ conj_made c
    chain_made (conj_or c d) = join_made (lowered (all_of (conj_trees c))) (flat_map lowered (chain_trees d)) (conj_parts c) (chain_parts d) (all_made (conj_trees c) ∙ conj_made c) (chain_made d)

-- ---- a form

-- a product has one name and a small number; a text is one of so many
abbrev pub Fine : List ℤ → ℕ → Use → Type 0
Fine numbers texts (used.Name c) = Unit {0}
Fine numbers texts (used.Text t) = t < texts
Fine numbers texts (used.Number n) = Unit {0}
Fine numbers texts (used.Product (factor.Number n) (factor.Name c)) = unsigned_abs (number_at numbers n) ≤ 1000000
Fine numbers texts (used.Product (factor.Name c) (factor.Number n)) = unsigned_abs (number_at numbers n) ≤ 1000000
Fine numbers texts (used.Product l r) = ⊥

abbrev pub AllFine : List ℤ → ℕ → List Use → Type 0
AllFine numbers texts us = AllByRecursion (Fine numbers texts) us

pub record HasParts (numbers : List ℤ) (ids : List ℕ) (texts : ℕ) (f : Form) : Type 0 where
  pub parts : List Part
  pub exprs : exprs_of (lowered_form numbers ids f) ≡ map (part_expr numbers ids) parts
  pub params : parameters_in (uses_of f) ≡ parameters_in (Used parts)
  pub fine : AllFine numbers texts (uses_of f) → AllFine numbers texts (Used parts)

params_join : (us vs : List Use) → parameters_in (us ++ vs) ≡ parameters_in us ++ parameters_in vs
params_join us vs = flat_map-append alone us vs

pub all_left : {A : Type 0} (P : A → Type 0) (xs ys : List A) → AllByRecursion P (xs ++ ys) → AllByRecursion P xs
all_left P [] ys h = tt
all_left P (x ∷ xs) ys h = (h.0, all_left P xs ys h.1)

pub all_right : {A : Type 0} (P : A → Type 0) (xs ys : List A) → AllByRecursion P (xs ++ ys) → AllByRecursion P ys
all_right P [] ys h = h
all_right P (x ∷ xs) ys h = all_right P xs ys h.1

pub all_join : {A : Type 0} (P : A → Type 0) (xs ys : List A) → AllByRecursion P xs → AllByRecursion P ys → AllByRecursion P (xs ++ ys)
all_join P [] ys h k = k
all_join P (x ∷ xs) ys h k = (h.0, all_join P xs ys h.1 k)

-- the new values of UPDATE
abbrev set_parts : List Assign → List Part
set_parts sets = map (λ (a : Assign). side_part a.value) sets

sets_params : (sets : List Assign) → parameters_in (flat_map assign_uses sets) ≡ parameters_in (Used (set_parts sets))
sets_params [] = refl
sets_params (a ∷ sets) =
    params_join (side_uses a.value) (flat_map assign_uses sets) ∙ ap (λ us. parameters_in us ++ parameters_in (flat_map assign_uses sets)) (side_used a.value)
    ∙ ap (λ t. parameters_in (part_uses (side_part a.value)) ++ t) (sets_params sets) ∙ sym (params_join (part_uses (side_part a.value)) (Used (set_parts sets)))

sets_fine : (numbers : List ℤ) (texts : ℕ) (sets : List Assign) → AllFine numbers texts (flat_map assign_uses sets) → AllFine numbers texts (Used (set_parts sets))
sets_fine numbers texts [] h = tt
sets_fine numbers texts (a ∷ sets) h =
    all_join (Fine numbers texts) (part_uses (side_part a.value)) (Used (set_parts sets))
    (subst (AllFine numbers texts) (side_used a.value) (all_left (Fine numbers texts) (side_uses a.value) (flat_map assign_uses sets) h.1))
    (sets_fine numbers texts sets (all_right (Fine numbers texts) (side_uses a.value) (flat_map assign_uses sets) h.1))

sets_made : (numbers : List ℤ) (ids : List ℕ) (sets : List Assign) → map (λ (s : ℕ × Expr). s.1) (map (lowered_assign numbers ids) sets) ≡ map (part_expr numbers ids) (set_parts sets)
sets_made numbers ids [] = refl
sets_made numbers ids (a ∷ sets) = ap (λ e. e ∷ map (λ (s : ℕ × Expr). s.1) (map (lowered_assign numbers ids) sets)) (side_made numbers ids a.value) ∙ ap (λ t. part_expr numbers ids (side_part a.value) ∷ t) (sets_made numbers ids sets)

-- WHERE
pub record HasFilter (numbers : List ℤ) (ids : List ℕ) (w : Option Condition) : Type 0 where
  pub parts : List Part
  pub made : flat_map exprs_in (flat_map tests_of (where_of (option_map (lowered_condition numbers ids) w))) ≡ map (part_expr numbers ids) parts
  pub uses : filter_uses w ≡ Used parts

has_filter : (numbers : List ℤ) (ids : List ℕ) (xs : Lexemes) (w : Option Condition) → IsFilter 32 xs w → HasFilter numbers ids w
has_filter numbers ids xs None h = record { parts = []; made = refl; uses = refl }
has_filter numbers ids xs (Some c) h =
    let k = h.2 in
    let f = lowered_condition numbers ids in
    record {
      parts = chain_parts k.chain;
      made = ap (flat_map exprs_in) (append-nil (tests_of (f c))) ∙ ap (λ c. flat_map exprs_in (tests_of (f c))) k.tree ∙ any_made numbers ids (chain_trees k.chain) ∙ chain_made numbers ids k.chain;
      uses = ap condition_uses k.tree ∙ any_uses (chain_trees k.chain) ∙ chain_used k.chain;
    }

-- VALUES
abbrev tuple_parts : List (Several Item) → List Part
tuple_parts tuples = flat_map items_parts tuples

tuples_used : (tuples : List (Several Item)) → flat_map (several_uses item_uses) tuples ≡ Used (tuple_parts tuples)
tuples_used [] = refl
tuples_used (t ∷ tuples) =
    ap (λ us. (item_uses t.first ++ us) ++ flat_map (several_uses item_uses) tuples) (items_used t.others)
    ∙ ap (λ us. Used (items_parts t) ++ us) (tuples_used tuples) ∙ sym (flat_map-append part_uses (items_parts t) (tuple_parts tuples))

tuples_made : (numbers : List ℤ) (ids : List ℕ) (tuples : List (Several Item)) → flat_map (λ (tuple : List Expr). tuple) (map (lowered_several (lowered_item ids)) tuples) ≡ map (part_expr numbers ids) (tuple_parts tuples)
tuples_made numbers ids [] = refl
tuples_made numbers ids (t ∷ tuples) =
    ap (λ es. (lowered_item ids t.first ∷ es) ++ flat_map (λ (tuple : List Expr). tuple) (map (lowered_several (lowered_item ids)) tuples)) (items_made numbers ids t.others)
    ∙ ap (λ es. map (part_expr numbers ids) (items_parts t) ++ es) (tuples_made numbers ids tuples) ∙ sym (map_append (part_expr numbers ids) (items_parts t) (tuple_parts tuples))

names_params : (names : List ℕ) → parameters_in (flat_map name_uses names) ≡ []
names_params [] = refl
names_params (n ∷ names) = names_params names

columns_params : (c : Option (Several ℕ)) → parameters_in (columns_uses c) ≡ []
columns_params None = refl
columns_params (Some names) = names_params names.others

pub has_parts : (numbers : List ℤ) (ids : List ℕ) (texts : ℕ) (xs : Lexemes) (f : Form) → IsForm 32 xs f → HasParts numbers ids texts f
has_parts numbers ids texts xs (form.Update t s w) h =
    let filter = has_filter numbers ids h.0 w h.2 in
    let sets = s.first ∷ s.others in
    record {
      parts = set_parts sets ++ filter.parts;
      exprs = append-nil (map (λ (s : ℕ × Expr). s.1) (map (lowered_assign numbers ids) sets) ++ flat_map exprs_in (flat_map tests_of (where_of (option_map (lowered_condition numbers ids) w))))
          ∙ join_made numbers ids (map (λ (s : ℕ × Expr). s.1) (map (lowered_assign numbers ids) sets)) (flat_map exprs_in (flat_map tests_of (where_of (option_map (lowered_condition numbers ids) w)))) (set_parts sets) filter.parts (sets_made numbers ids sets) filter.made;
      params = params_join (flat_map assign_uses sets) (filter_uses w) ∙ ap (λ t. t ++ parameters_in (filter_uses w)) (sets_params sets) ∙ ap (λ us. parameters_in (Used (set_parts sets)) ++ parameters_in us) filter.uses
          ∙ sym (params_join (Used (set_parts sets)) (Used filter.parts)) ∙ ap parameters_in (sym (flat_map-append part_uses (set_parts sets) filter.parts));
      fine = λ k. subst (AllFine numbers texts) (sym (flat_map-append part_uses (set_parts sets) filter.parts))
          (all_join (Fine numbers texts) (Used (set_parts sets)) (Used filter.parts) (sets_fine numbers texts sets (all_left (Fine numbers texts) (flat_map assign_uses sets) (filter_uses w) k.1))
          (subst (AllFine numbers texts) filter.uses (all_right (Fine numbers texts) (flat_map assign_uses sets) (filter_uses w) k.1)));
    }
has_parts numbers ids texts xs (form.Delete t w) h =
    let filter = has_filter numbers ids h.0 w h.2 in
    record {
      parts = filter.parts;
      exprs = append-nil (flat_map exprs_in (flat_map tests_of (where_of (option_map (lowered_condition numbers ids) w)))) ∙ filter.made;
      params = ap parameters_in filter.uses;
      fine = λ k. subst (AllFine numbers texts) filter.uses k.1;
    }
has_parts numbers ids texts xs (form.Insert t c s) h =
    let tuples = s.first ∷ s.others in
    record {
      parts = tuple_parts tuples;
      exprs = tuples_made numbers ids tuples;
      params = params_join (columns_uses c) (flat_map (several_uses item_uses) tuples) ∙ ap (λ t. t ++ parameters_in (flat_map (several_uses item_uses) tuples)) (columns_params c) ∙ ap parameters_in (tuples_used tuples);
      fine = λ k. subst (AllFine numbers texts) (tuples_used tuples) (all_right (Fine numbers texts) (columns_uses c) (flat_map (several_uses item_uses) tuples) k.1);
    }
