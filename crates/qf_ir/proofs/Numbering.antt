-- What renumbering keeps.
use Rattle.std.proofs.Common.{◌≡◌, ◌∙◌, ap, sym, refl, ℕ, ◌+◌, ◌<◌, max, List, [], ◌∷◌, ◌++◌, map}
use Rattle.std.specs.declared.option.Option.{Option}
use Rattle.std.specs.declared.option.Option.TheVariants.{Some, None}
use Rattle.std.specs.List.{flat_map, AllByRecursion}
use Rattle.std.proofs.lemmas.List.{length-map, map-append, append-nil}
use mathlib.Core.Former.{none_left, one_more}
use Rattle.qf_ir.specs.declared.ast.Atom.{Atom}
use Rattle.qf_ir.specs.declared.ast.Atom.TheVariants.{Column, Param}
use Rattle.qf_ir.specs.declared.ast.Term.{Term}
use Rattle.qf_ir.specs.declared.ast.Expr.{Expr}
use Rattle.qf_ir.specs.declared.ast.Expr.TheVariants.{Sum, Word}
use Rattle.qf_ir.specs.declared.ast.Cond.{Cond, Row_of-Cond, end_of-Cond, more_of-Cond}
use Rattle.qf_ir.specs.declared.ast.Cond.TheVariants.{Compare, Between, Within, All, Any, All', Any', Not'}
use Rattle.qf_ir.specs.declared.ast.Statement.{Statement}
use Rattle.qf_ir.specs.declared.ast.Statement.TheVariants.{Update, Delete, Insert}
use Rattle.qf_ir.specs.Typed.{IsItem, IsParam}
use Rattle.qf_ir.specs.Parts.{param_of, params_in, tests_of, tests_of_parts, exprs_in, depth_of, depth_of_parts, where_of, conds_of, statement_tests, items_of, values_of, exprs_of, statement_params, all_exprs, all_conds, all_items}
use Rattle.qf_ir.specs.Made.{FactorFits, IsMade, IsCoded, HasParts, IsWhole, AreWhole, IsShallow, AreMade, AreCoded, AreInOrder}
use Rattle.qf_ir.specs.Numbered.{Numbering, found_at, numbered_atom, numbered_term, numbered_expr, numbered_exprs, negated, numbered_cond, numbered_parts, numbered_where, numbered_set, numbered_statement}
use Rattle.qf_ir.proofs.Lists.{tests_all, tests_any, tests_not, exprs_all, exprs_any, exprs_not, depth_parts, depth_all, depth_any, depth_not, whole_all, whole_any, whole_not}

-- ---- lists

pub each-map : {X Y : Type 0} (P : X → Type 0) (Q : Y → Type 0) (f : X → Y) → ((x : X) → P x → Q (f x))
    → (xs : List X) → AllByRecursion P xs → AllByRecursion Q (map f xs)
each-map P Q f step [] each = tt
each-map P Q f step (x ∷ xs) each = (step x each.0, each-map P Q f step xs each.1)

pub each-append : {X : Type 0} (P : X → Type 0) (xs ys : List X) → AllByRecursion P (xs ++ ys) → AllByRecursion P xs × AllByRecursion P ys
each-append P [] ys each = (tt, each)
each-append P (x ∷ xs) ys each = let rest = each-append P xs ys each.1 in ((each.0, rest.0), rest.1)

pub each-join : {X : Type 0} (P : X → Type 0) (xs ys : List X) → AllByRecursion P xs → AllByRecursion P ys → AllByRecursion P (xs ++ ys)
each-join P [] ys one two = two
each-join P (x ∷ xs) ys one two = (one.0, each-join P xs ys one.1 two)

pub map-flat : {X Y A B : Type 0} (f : X → List A) (g : Y → List B) (u : X → Y) (v : A → B)
    → ((x : X) → g (u x) ≡ map v (f x)) → (xs : List X) → flat_map g (map u xs) ≡ map v (flat_map f xs)
map-flat f g u v step [] = refl
map-flat f g u v step (x ∷ xs) =
    ap (λ ys. ys ++ flat_map g (map u xs)) (step x) ∙ ap (λ ys. map v (f x) ++ ys) (map-flat f g u v step xs)
    ∙ sym (map-append v (f x) (flat_map f xs))

pub same-flat : {X Y A : Type 0} (f : X → List A) (g : Y → List A) (u : X → Y)
    → ((x : X) → g (u x) ≡ f x) → (xs : List X) → flat_map g (map u xs) ≡ flat_map f xs
same-flat f g u step [] = refl
same-flat f g u step (x ∷ xs) =
    ap (λ ys. ys ++ flat_map g (map u xs)) (step x) ∙ ap (λ ys. f x ++ ys) (same-flat f g u step xs)

module _ (n : Numbering) where
  -- ---- expressions

  pub params-same : (e : Expr) → params_in (numbered_expr n e) ≡ params_in e
  params-same (Sum terms) = same-flat (λ (t : Term). param_of t.atom) (λ (t : Term). param_of t.atom) (numbered_term n) step terms where
    step : (t : Term) → param_of (numbered_atom n t.atom) ≡ param_of t.atom
    step t = by_atom t.atom where
      by_atom : (a : Atom) → param_of (numbered_atom n a) ≡ param_of a
      by_atom (Column c) = refl
      by_atom (Param k) = refl
  params-same (Word code) = refl

  factor-fits : (t : Term) → FactorFits t.factor t.atom → FactorFits t.factor (numbered_atom n t.atom)
  factor-fits t fits = by_atom t.atom fits where
    by_atom : (a : Atom) → FactorFits t.factor a → FactorFits t.factor (numbered_atom n a)
    by_atom (Column c) fits = fits
    by_atom (Param k) fits = fits

  pub made-expr : (e : Expr) → IsMade e → IsMade (numbered_expr n e)
  made-expr (Sum terms) made = (
    rw (length-map terms (numbered_term n)) made.0,
    each-map (λ (t : Term). FactorFits t.factor t.atom) (λ (t : Term). FactorFits t.factor t.atom) (numbered_term n) factor-fits terms made.1,
  )
  made-expr (Word code) made = tt

  param-item : (terms : List Term) → IsParam terms → IsParam (map (numbered_term n) terms)
  param-item [] is = is
  param-item (t ∷ []) is = (is.0, (is.1.0, ap (numbered_atom n) is.1.1))
  param-item (t ∷ u ∷ ts) is = is

  pub item-expr : (e : Expr) → IsItem e → IsItem (numbered_expr n e)
  item-expr (Sum terms) is = param-item terms is
  item-expr (Word code) is = tt

  -- ---- conditions

  no-tests : (rest : Row_of-Cond none_left) → tests_of_parts rest ≡ []
  no-tests end_of-Cond = refl

  mutual
    pub tests-same : (cond : Cond) → tests_of (numbered_cond n cond) ≡ map (numbered_cond n) (tests_of cond)
    tests-same (Compare op l r) = refl
    tests-same (Between x lo hi) = refl
    tests-same (Within x items) = refl
    tests-same (All' shape parts) = tests_all (numbered_parts n parts) ∙ tests-rows parts
    tests-same (Any' shape parts) = tests_any (numbered_parts n parts) ∙ tests-rows parts
    tests-same (Not' shape part) = tests-one part

    tests-rows : {m : _} (parts : Row_of-Cond m) → flat_map tests_of (numbered_parts n parts) ≡ map (numbered_cond n) (tests_of_parts parts)
    tests-rows end_of-Cond = refl
    tests-rows (more_of-Cond part rest) =
        ap (λ ts. ts ++ flat_map tests_of (numbered_parts n rest)) (tests-same part)
        ∙ ap (λ ts. map (numbered_cond n) (tests_of part) ++ ts) (tests-rows rest)
        ∙ sym (map-append (numbered_cond n) (tests_of part) (tests_of_parts rest))

    tests-one : (part : Row_of-Cond (one_more none_left)) → tests_of (negated (numbered_parts n part)) ≡ map (numbered_cond n) (tests_of_parts part)
    tests-one (more_of-Cond part rest) =
        tests_not (numbered_cond n part) ∙ tests-same part
        ∙ ap (map (numbered_cond n)) (sym (append-nil (tests_of part)) ∙ ap (λ ts. tests_of part ++ ts) (sym (no-tests rest)))

  no-depth : (rest : Row_of-Cond none_left) → depth_of_parts rest ≡ 0
  no-depth end_of-Cond = refl

  mutual
    pub depth-same : (cond : Cond) → depth_of (numbered_cond n cond) ≡ depth_of cond
    depth-same (Compare op l r) = refl
    depth-same (Between x lo hi) = refl
    depth-same (Within x items) = refl
    depth-same (All' shape parts) = depth_all (numbered_parts n parts) ∙ ap (λ d. 1 + d) (depth-rows parts)
    depth-same (Any' shape parts) = depth_any (numbered_parts n parts) ∙ ap (λ d. 1 + d) (depth-rows parts)
    depth-same (Not' shape part) = depth-one part

    depth-rows : {m : _} (parts : Row_of-Cond m) → depth_parts (numbered_parts n parts) ≡ depth_of_parts parts
    depth-rows end_of-Cond = refl
    depth-rows (more_of-Cond part rest) =
        ap (λ d. max d (depth_parts (numbered_parts n rest))) (depth-same part) ∙ ap (max (depth_of part)) (depth-rows rest)

    depth-one : (part : Row_of-Cond (one_more none_left)) → depth_of (negated (numbered_parts n part)) ≡ 1 + depth_of_parts part
    depth-one (more_of-Cond part rest) =
        depth_not (numbered_cond n part) ∙ ap (λ d. 1 + max d 0) (depth-same part) ∙ ap (λ d. 1 + max (depth_of part) d) (sym (no-depth rest))

  mutual
    pub whole-same : (cond : Cond) → IsWhole cond → IsWhole (numbered_cond n cond)
    whole-same (Compare op l r) whole = tt
    whole-same (Between x lo hi) whole = tt
    whole-same (Within x items) whole = rw (length-map items (numbered_expr n)) whole
    whole-same (All' shape parts) whole = whole-all-rows parts whole.0 whole.1
    whole-same (Any' shape parts) whole = whole-any-rows parts whole.0 whole.1
    whole-same (Not' shape part) whole = whole-one part whole

    whole-rows : {m : _} (parts : Row_of-Cond m) → AreWhole parts → AllByRecursion IsWhole (numbered_parts n parts)
    whole-rows end_of-Cond whole = tt
    whole-rows (more_of-Cond part rest) whole = (whole-same part whole.0, whole-rows rest whole.1)

    whole-all-rows : {m : _} (parts : Row_of-Cond m) → HasParts parts → AreWhole parts → IsWhole (All (numbered_parts n parts))
    whole-all-rows end_of-Cond some whole = absurd some
    whole-all-rows (more_of-Cond part rest) some whole =
        whole_all (numbered_cond n part) (numbered_parts n rest) (whole-same part whole.0, whole-rows rest whole.1)

    whole-any-rows : {m : _} (parts : Row_of-Cond m) → HasParts parts → AreWhole parts → IsWhole (Any (numbered_parts n parts))
    whole-any-rows end_of-Cond some whole = absurd some
    whole-any-rows (more_of-Cond part rest) some whole =
        whole_any (numbered_cond n part) (numbered_parts n rest) (whole-same part whole.0, whole-rows rest whole.1)

    whole-one : (part : Row_of-Cond (one_more none_left)) → AreWhole part → IsWhole (negated (numbered_parts n part))
    whole-one (more_of-Cond part rest) whole = whole_not (numbered_cond n part) (whole-same part whole.0)

  pub shallow-same : (cond : Cond) → IsShallow cond → IsShallow (numbered_cond n cond)
  shallow-same cond shallow = rw (depth-same cond) shallow

  exprs_in-same : (test : Cond) → exprs_in (numbered_cond n test) ≡ map (numbered_expr n) (exprs_in test)
  exprs_in-same (Compare op l r) = refl
  exprs_in-same (Between x lo hi) = refl
  exprs_in-same (Within x items) = refl
  exprs_in-same (All' shape parts) = exprs_all (numbered_parts n parts)
  exprs_in-same (Any' shape parts) = exprs_any (numbered_parts n parts)
  exprs_in-same (Not' shape part) = by_part part where
    by_part : (part : Row_of-Cond (one_more none_left)) → exprs_in (negated (numbered_parts n part)) ≡ []
    by_part (more_of-Cond part rest) = exprs_not (numbered_cond n part)

  -- ---- statements

  conds-where : (where_ : Option Cond) → where_of (numbered_where n where_) ≡ map (numbered_cond n) (where_of where_)
  conds-where None = refl
  conds-where (Some cond) = refl

  pub conds-same : (s : Statement) → conds_of (numbered_statement n s) ≡ map (numbered_cond n) (conds_of s)
  conds-same (Update sets where_) = conds-where where_
  conds-same (Delete where_) = conds-where where_
  conds-same (Insert columns tuples) = refl

  statement_tests-same : (s : Statement) → statement_tests (numbered_statement n s) ≡ map (numbered_cond n) (statement_tests s)
  statement_tests-same s =
      ap (flat_map tests_of) (conds-same s) ∙ map-flat tests_of tests_of (numbered_cond n) (numbered_cond n) tests-same (conds_of s)

  values-map : (sets : List (ℕ × Expr)) → map (λ (s : ℕ × Expr). s.1) (map (numbered_set n) sets) ≡ map (numbered_expr n) (map (λ (s : ℕ × Expr). s.1) sets)
  values-map [] = refl
  values-map (s ∷ sets) = ap (λ es. numbered_expr n s.1 ∷ es) (values-map sets)

  values-same : (s : Statement) → values_of (numbered_statement n s) ≡ map (numbered_expr n) (values_of s)
  values-same (Update sets where_) = values-map sets
  values-same (Delete where_) = refl
  values-same (Insert columns tuples) = refl

  pub items-same : (s : Statement) → items_of (numbered_statement n s) ≡ map (numbered_expr n) (items_of s)
  items-same (Update sets where_) = refl
  items-same (Delete where_) = refl
  items-same (Insert columns tuples) = map-flat (λ tuple. tuple) (λ tuple. tuple) (numbered_exprs n) (numbered_expr n) (λ tuple. refl) tuples

  map-three : (xs ys zs : List Expr) → map (numbered_expr n) (xs ++ ys ++ zs) ≡ map (numbered_expr n) xs ++ map (numbered_expr n) ys ++ map (numbered_expr n) zs
  map-three xs ys zs =
      map-append (numbered_expr n) (xs ++ ys) zs ∙ ap (λ es. es ++ map (numbered_expr n) zs) (map-append (numbered_expr n) xs ys)

  pub exprs-same : (s : Statement) → exprs_of (numbered_statement n s) ≡ map (numbered_expr n) (exprs_of s)
  exprs-same s =
      ap (λ es. es ++ flat_map exprs_in (statement_tests (numbered_statement n s)) ++ items_of (numbered_statement n s)) (values-same s)
      ∙ ap (λ es. map (numbered_expr n) (values_of s) ++ es ++ items_of (numbered_statement n s))
      (ap (flat_map exprs_in) (statement_tests-same s) ∙ map-flat exprs_in exprs_in (numbered_cond n) (numbered_expr n) exprs_in-same (statement_tests s))
      ∙ ap (λ es. map (numbered_expr n) (values_of s) ++ map (numbered_expr n) (flat_map exprs_in (statement_tests s)) ++ es) (items-same s)
      ∙ sym (map-three (values_of s) (flat_map exprs_in (statement_tests s)) (items_of s))

  pub statement_params-same : (s : Statement) → statement_params (numbered_statement n s) ≡ statement_params s
  statement_params-same s =
      ap (flat_map params_in) (exprs-same s) ∙ same-flat params_in params_in (numbered_expr n) params-same (exprs_of s)

  pub in-order-same : (ss : List Statement) (params : ℕ) → AreInOrder ss params → AreInOrder (map (numbered_statement n) ss) params
  in-order-same ss params order = same-flat statement_params statement_params (numbered_statement n) statement_params-same ss ∙ order

  all_exprs-same : (ss : List Statement) → all_exprs (map (numbered_statement n) ss) ≡ map (numbered_expr n) (all_exprs ss)
  all_exprs-same ss = map-flat exprs_of exprs_of (numbered_statement n) (numbered_expr n) exprs-same ss

  all_items-same : (ss : List Statement) → all_items (map (numbered_statement n) ss) ≡ map (numbered_expr n) (all_items ss)
  all_items-same ss = map-flat items_of items_of (numbered_statement n) (numbered_expr n) items-same ss

  all_conds-same : (ss : List Statement) → all_conds (map (numbered_statement n) ss) ≡ map (numbered_cond n) (all_conds ss)
  all_conds-same ss = map-flat conds_of conds_of (numbered_statement n) (numbered_cond n) conds-same ss

  pub made-same : (ss : List Statement) → AreMade ss → AreMade (map (numbered_statement n) ss)
  made-same ss made = record {
    exprs = rw (all_exprs-same ss) (each-map IsMade IsMade (numbered_expr n) made-expr (all_exprs ss) made.exprs);
    items = rw (all_items-same ss) (each-map IsItem IsItem (numbered_expr n) item-expr (all_items ss) made.items);
    whole = rw (all_conds-same ss) (each-map IsWhole IsWhole (numbered_cond n) whole-same (all_conds ss) made.whole);
    shallow = rw (all_conds-same ss) (each-map IsShallow IsShallow (numbered_cond n) shallow-same (all_conds ss) made.shallow);
  }

  pub coded-same : (texts more : ℕ) → ((code : ℕ) → code < texts → found_at n.codes code < more)
      → (ss : List Statement) → AreCoded ss texts → AreCoded (map (numbered_statement n) ss) more
  coded-same texts more within ss coded =
      rw (all_exprs-same ss) (each-map (IsCoded texts) (IsCoded more) (numbered_expr n) step (all_exprs ss) coded) where
        step : (e : Expr) → IsCoded texts e → IsCoded more (numbered_expr n e)
        step (Sum terms) is = tt
        step (Word code) is = within code is
