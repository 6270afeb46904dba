-- How a walk's tally adds up.
use Rattle.std.proofs.Common.{◌≡◌, ◌∙◌, ap, sym, refl, ℕ, zero, suc, ◌+◌, ◌<◌, ◌≤◌, Bool, true, false, ◌&&◌, ◌||◌, List, [], ◌∷◌, ◌++◌, length, map, get_or, drop, length-append, arith}
use Rattle.std.specs.List.{flat_map, range_with_len, list_all, list_any}
use Rattle.std.proofs.lemmas.List.{drop_more, drop_all}
use Rattle.std.proofs.lemmas.List.Folds.{list_all-append, list_any-append}
use Rattle.std.proofs.lemmas.Grind.{flat_map-append}
use Rattle.qf_ir.specs.declared.ast.Cond.{Cond}
use Rattle.qf_ir.specs.declared.ast.Expr.{Expr}
use Rattle.qf_ir.specs.declared.table.ColumnKind.{ColumnKind}
use Rattle.qf_ir.specs.declared.making.tally.Tally.{Tally}
use Rattle.qf_ir.specs.Parts.{tests_of, exprs_in, params_in, comparisons_in, comparisons_of}
use Rattle.qf_ir.specs.Checked.{tuple_agrees, names_known, is_long, is_column, test_agrees, set_agrees}
use Rattle.qf_ir.specs.Tallies.{capped, with_expr, with_exprs, with_types, with_names, with_comparisons, with_test, with_tests, with_sets, with_tuples}

pub tests-more : (kinds : List ColumnKind) (t : Tally) (xs ys : List Cond) → with_tests kinds t (xs ++ ys) ≡ with_tests kinds (with_tests kinds t xs) ys
tests-more kinds t [] ys = refl
tests-more kinds t (x ∷ xs) ys = tests-more kinds (with_test kinds t x) xs ys

-- a walk's next condition
pub tests-step : (kinds : List ColumnKind) (conds : List Cond) (i : ℕ) (item : Cond) → i < length conds → item ≡ get_or conds i item
    → (self next all : Tally) → with_tests kinds self (flat_map tests_of (drop i conds)) ≡ all → next ≡ with_tests kinds self (tests_of item)
    → with_tests kinds next (flat_map tests_of (drop (i + 1) conds)) ≡ all
tests-step kinds conds i item lt is self next all so_far step =
    let rest = flat_map tests_of (drop (i + 1) conds) in
    ap (λ t. with_tests kinds t rest) step
    ∙ sym (tests-more kinds self (tests_of item) rest)
    ∙ ap (λ x. with_tests kinds self (tests_of x ++ rest)) is
    ∙ sym (ap (λ cs. with_tests kinds self (flat_map tests_of cs)) (drop_more conds i item lt))
    ∙ so_far

pub range-more : (a n : ℕ) → range_with_len a (n + 1) ≡ range_with_len a n ++ (a + n) ∷ []
range-more a zero = let e : a ≡ a + 0 = omega arith in ap (λ k. k ∷ []) e
range-more a (suc n) =
    let e : (a + 1) + n ≡ a + suc n = omega arith in
    let length_is : suc n + 1 ≡ suc (n + 1) = omega arith in
    ap (range_with_len a) length_is ∙ ap (λ ks. a ∷ ks) (range-more (a + 1) n) ∙ ap (λ k. a ∷ (range_with_len (a + 1) n ++ k ∷ [])) e

pub range-next : (n : ℕ) → range_with_len 0 (n + 1) ≡ range_with_len 0 n ++ n ∷ []
range-next n = let e : 0 + n ≡ n = omega arith in range-more 0 n ∙ ap (λ k. range_with_len 0 n ++ k ∷ []) e

no-items : (kinds : List ColumnKind) (columns : List ℕ) → tuple_agrees kinds columns [] ≡ true
no-items kinds [] = refl
no-items kinds (c ∷ cs) = refl

-- past the tuple's items nothing is left to compare
pub agrees-past : (kinds : List ColumnKind) (columns : List ℕ) (tuple : List Expr) (n : ℕ) → length tuple ≤ n
    → tuple_agrees kinds (drop n columns) (drop n tuple) ≡ true
agrees-past kinds columns tuple n past = ap (tuple_agrees kinds (drop n columns)) (drop_all n tuple past) ∙ no-items kinds (drop n columns)

-- ---- what a tally tells

-- counts up to the greatest number
pub record Tells (t : Tally) (k a l : Bool) (p c : ℕ) : Type 0 where
  pub known : t.known ≡ k
  pub agrees : t.agrees ≡ a
  pub long : t.long ≡ l
  pub params : t.params ≡ capped p
  pub comparisons : t.comparisons ≡ capped c

pub tells-as : (t : Tally) (k a l k' a' l' : Bool) (p c p' c' : ℕ) → Tells t k a l p c → k ≡ k' → a ≡ a' → l ≡ l' → p ≡ p' → c ≡ c' → Tells t k' a' l' p' c'
tells-as t k a l k' a' l' p c p' c' tells is_k is_a is_l is_p is_c = record {
  known = tells.known ∙ is_k;
  agrees = tells.agrees ∙ is_a;
  long = tells.long ∙ is_l;
  params = tells.params ∙ ap capped is_p;
  comparisons = tells.comparisons ∙ ap capped is_c;
}

and-assoc : (a b c : Bool) → ((a && b) && c) ≡ (a && (b && c))
and-assoc true b c = refl
and-assoc false b c = refl

pub and-true : (a : Bool) → a ≡ (a && true)
and-true true = refl
and-true false = refl

or-assoc : (a b c : Bool) → ((a || b) || c) ≡ (a || (b || c))
or-assoc true b c = refl
or-assoc false b c = refl

or-false : (a : Bool) → a ≡ (a || false)
or-false true = refl
or-false false = refl

and-cross : (a b x y : Bool) → ((a && b) && (x && y)) ≡ ((a && x) && (b && y))
and-cross true true x y = refl
and-cross true false true y = refl
and-cross true false false y = refl
and-cross false b x y = refl

tells-expr : (w : ℕ) (e : Expr) (t : Tally) (k a l : Bool) (p c : ℕ) → Tells t k a l p c
    → Tells (with_expr w t e) (k && names_known w e) a (l || is_long e) (p + length (params_in e)) c
tells-expr w e t k a l p c tells = record {
  known = ap (λ b. b && names_known w e) tells.known;
  agrees = tells.agrees;
  long = ap (λ b. b || is_long e) tells.long;
  params = ap (λ n. capped (n + length (params_in e))) tells.params ∙ omega arith;
  comparisons = tells.comparisons;
}

pub tells-exprs : (w : ℕ) (es : List Expr) (t : Tally) (k a l : Bool) (p c : ℕ) → Tells t k a l p c
    → Tells (with_exprs w t es) (k && list_all (names_known w) es) a (l || list_any is_long es) (p + length (flat_map params_in es)) c
tells-exprs w [] t k a l p c tells = tells-as _ _ _ _ _ _ _ _ _ _ _ tells (and-true k) refl (or-false l) (omega arith) refl
tells-exprs w (e ∷ es) t k a l p c tells =
    tells-as _ _ _ _ _ _ _ _ _ _ _
    (tells-exprs w es (with_expr w t e) (k && names_known w e) a (l || is_long e) (p + length (params_in e)) c (tells-expr w e t k a l p c tells))
    (and-assoc k (names_known w e) (list_all (names_known w) es)) refl (or-assoc l (is_long e) (list_any is_long es))
    (let n = length-append (params_in e) (flat_map params_in es) in omega (arith, n)) refl

tells-types : (t : Tally) (k a l agree : Bool) (p c : ℕ) → Tells t k a l p c → Tells (with_types t agree) k (a && agree) l p c
tells-types t k a l agree p c tells = record {
  known = tells.known;
  agrees = ap (λ b. b && agree) tells.agrees;
  long = tells.long;
  params = tells.params;
  comparisons = tells.comparisons;
}

pub tells-names : (t : Tally) (k a l known : Bool) (p c : ℕ) → Tells t k a l p c → Tells (with_names t known) (k && known) a l p c
tells-names t k a l known p c tells = record {
  known = ap (λ b. b && known) tells.known;
  agrees = tells.agrees;
  long = tells.long;
  params = tells.params;
  comparisons = tells.comparisons;
}

tells-comparisons : (t : Tally) (k a l : Bool) (p c n : ℕ) → Tells t k a l p c → Tells (with_comparisons t n) k a l p (c + n)
tells-comparisons t k a l p c n tells = record {
  known = tells.known;
  agrees = tells.agrees;
  long = tells.long;
  params = tells.params;
  comparisons = ap (λ m. capped (m + n)) tells.comparisons ∙ omega arith;
}

module _ (kinds : List ColumnKind) where
  pub tells-tests : (tests : List Cond) (t : Tally) (k a l : Bool) (p c : ℕ) → Tells t k a l p c
      → Tells (with_tests kinds t tests) (k && list_all (names_known (length kinds)) (flat_map exprs_in tests)) (a && list_all (test_agrees kinds) tests)
      (l || list_any is_long (flat_map exprs_in tests)) (p + length (flat_map params_in (flat_map exprs_in tests))) (c + comparisons_of tests)
  tells-tests [] t k a l p c tells = tells-as _ _ _ _ _ _ _ _ _ _ _ tells (and-true k) (and-true a) (or-false l) (omega arith) (omega arith)
  tells-tests (test ∷ tests) t k a l p c tells =
      let w = length kinds in
      let es = exprs_in test in
      let rest = flat_map exprs_in tests in
      let before = tells-comparisons _ _ _ _ _ _ (comparisons_in test) (tells-types t k a l (test_agrees kinds test) p c tells) in
      let here = tells-exprs w es _ _ _ _ _ _ before in
      tells-as _ _ _ _ _ _ _ _ _ _ _ (tells-tests tests _ _ _ _ _ _ here)
      (and-assoc k (list_all (names_known w) es) (list_all (names_known w) rest) ∙ ap (λ b. k && b) (sym (list_all-append (names_known w) es rest)))
      (and-assoc a (test_agrees kinds test) (list_all (test_agrees kinds) tests))
      (or-assoc l (list_any is_long es) (list_any is_long rest) ∙ ap (λ b. l || b) (sym (list_any-append is_long es rest)))
      (let joined = ap length (flat_map-append params_in es rest) in
      let n = length-append (flat_map params_in es) (flat_map params_in rest) in omega (arith, joined, n))
      (omega arith)

  pub tells-sets : (sets : List (ℕ × Expr)) (t : Tally) (k a l : Bool) (p c : ℕ) → Tells t k a l p c
      → Tells (with_sets kinds t sets)
      (k && (list_all (is_column (length kinds)) (map (λ (s : ℕ × Expr). s.0) sets) && list_all (names_known (length kinds)) (map (λ (s : ℕ × Expr). s.1) sets)))
      (a && list_all (set_agrees kinds) sets) (l || list_any is_long (map (λ (s : ℕ × Expr). s.1) sets))
      (p + length (flat_map params_in (map (λ (s : ℕ × Expr). s.1) sets))) c
  tells-sets [] t k a l p c tells = tells-as _ _ _ _ _ _ _ _ _ _ _ tells (and-true k) (and-true a) (or-false l) (omega arith) refl
  tells-sets (s ∷ sets) t k a l p c tells =
      let w = length kinds in
      let columns = list_all (is_column w) (map (λ (s : ℕ × Expr). s.0) sets) in
      let values = list_all (names_known w) (map (λ (s : ℕ × Expr). s.1) sets) in
      let before = tells-types _ _ _ _ (set_agrees kinds s) _ _ (tells-names t k a l (is_column w s.0) p c tells) in
      let here = tells-expr w s.1 _ _ _ _ _ _ before in
      tells-as _ _ _ _ _ _ _ _ _ _ _ (tells-sets sets _ _ _ _ _ _ here)
      (ap (λ b. b && (columns && values)) (and-assoc k (is_column w s.0) (names_known w s.1)) ∙ and-assoc k (is_column w s.0 && names_known w s.1) (columns && values)
      ∙ ap (λ b. k && b) (and-cross (is_column w s.0) (names_known w s.1) columns values))
      (and-assoc a (set_agrees kinds s) (list_all (set_agrees kinds) sets))
      (or-assoc l (is_long s.1) (list_any is_long (map (λ (s : ℕ × Expr). s.1) sets)))
      (let n = length-append (params_in s.1) (flat_map params_in (map (λ (s : ℕ × Expr). s.1) sets)) in omega (arith, n)) refl

  pub tells-tuples : (columns : List ℕ) (tuples : List (List Expr)) (t : Tally) (k a l : Bool) (p c : ℕ) → Tells t k a l p c
      → Tells (with_tuples kinds columns t tuples) (k && list_all (names_known (length kinds)) (flat_map (λ tuple. tuple) tuples))
      (a && list_all (tuple_agrees kinds columns) tuples) (l || list_any is_long (flat_map (λ tuple. tuple) tuples))
      (p + length (flat_map params_in (flat_map (λ tuple. tuple) tuples))) c
  tells-tuples columns [] t k a l p c tells = tells-as _ _ _ _ _ _ _ _ _ _ _ tells (and-true k) (and-true a) (or-false l) (omega arith) refl
  tells-tuples columns (tuple ∷ tuples) t k a l p c tells =
      let w = length kinds in
      let rest = flat_map (λ tuple. tuple) tuples in
      let here = tells-exprs w tuple _ _ _ _ _ _ (tells-types t k a l (tuple_agrees kinds columns tuple) p c tells) in
      tells-as _ _ _ _ _ _ _ _ _ _ _ (tells-tuples columns tuples _ _ _ _ _ _ here)
      (and-assoc k (list_all (names_known w) tuple) (list_all (names_known w) rest) ∙ ap (λ b. k && b) (sym (list_all-append (names_known w) tuple rest)))
      (and-assoc a (tuple_agrees kinds columns tuple) (list_all (tuple_agrees kinds columns) tuples))
      (or-assoc l (list_any is_long tuple) (list_any is_long rest) ∙ ap (λ b. l || b) (sym (list_any-append is_long tuple rest)))
      (let joined = ap length (flat_map-append params_in tuple rest) in
      let n = length-append (flat_map params_in tuple) (flat_map params_in rest) in omega (arith, joined, n))
      refl
