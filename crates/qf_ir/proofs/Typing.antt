-- Statements whose types agree are well typed.
use Rattle.std.proofs.Common.{◌≡◌, ◌∙◌, ap, sym, subst, refl, ℕ, zero, suc, ◌+◌, ◌<◌, ◌≤◌, ◌==◌, Bool, true, false, not, ◌&&◌, ◌||◌, nat_lt, if◌then◌else◌, ◌⊎◌, inl, inr, List, [], ◌∷◌, ◌++◌, length, map, slice_get, pos, add-one, arith}
use Rattle.std.specs.declared.option.Option.{Option}
use Rattle.std.specs.declared.option.Option.TheVariants.{Some, None}
use Rattle.std.specs.List.{flat_map, list_all, list_any, AllByRecursion, IsDistinct, range_with_len}
use Rattle.std.specs.Ordering.{int_eq}
use Rattle.std.proofs.lemmas.Bool.{false≢true}
use Rattle.std.proofs.lemmas.Bool.Decides.{nat_tests, Decides-int_eq}
use Rattle.std.proofs.lemmas.Cmp.{nat_eq_equiv}
use Rattle.std.proofs.lemmas.List.FromFn.{length-range_with_len}
use Rattle.std.proofs.lemmas.List.Folds.{list_all-append}
use Rattle.std.proofs.lemmas.Grind.{flat_map-append}
use Rattle.std.proofs.lemmas.Map.Views.{list_any-from_Contains}
use Rattle.std.proofs.lemmas.Map.Steps.{length-le_from_distinct_below}
use Rattle.qf_ir.specs.declared.ast.Atom.{Atom}
use Rattle.qf_ir.specs.declared.ast.Atom.TheVariants.{Column, Param}
use Rattle.qf_ir.specs.declared.ast.Term.{Term}
use Rattle.qf_ir.specs.declared.ast.Expr.{Expr}
use Rattle.qf_ir.specs.declared.ast.Expr.TheVariants.{Sum, Word}
use Rattle.qf_ir.specs.declared.ast.Op.{Op}
use Rattle.qf_ir.specs.declared.ast.Op.TheVariants.{Eq, Ne, Lt, Le, Gt, Ge}
use Rattle.qf_ir.specs.declared.ast.Cond.{Cond, Row_of-Cond, end_of-Cond, more_of-Cond}
use Rattle.qf_ir.specs.declared.ast.Cond.TheVariants.{Compare, Between, Within, All', Any', Not'}
use Rattle.qf_ir.specs.declared.ast.Statement.{Statement}
use Rattle.qf_ir.specs.declared.ast.Statement.TheVariants.{Update, Delete, Insert}
use Rattle.qf_ir.specs.declared.table.ColumnKind.{ColumnKind}
use Rattle.qf_ir.specs.declared.table.ColumnKind.TheVariants as kind
use Rattle.qf_ir.specs.Replay.{place_from, place_of}
use Rattle.qf_ir.specs.Typed.{Scope, IsNumber, IsTextColumn, AreNumbers, IsText, IsInt, HasKind, AllOfKind, MeetsTexts, IsTyped, AreTyped, WhereTyped, Fits, SetsTyped, IsItem, ItemFits, ColumnsFilled, TuplesTyped, StatementTyped, ListsAll}
use Rattle.qf_ir.specs.Parts.{param_of, params_in, tests_of, tests_of_parts, exprs_in, where_of, items_of, exprs_of}
use Rattle.qf_ir.specs.Made.{IsMade, IsCoded}
use Rattle.qf_ir.specs.Checked.{is_int_kind, is_text_kind, is_number, is_text_column, is_int, is_text, goes_into, is_equality, test_agrees, set_agrees, listed, tuple_agrees, is_among, is_column, repeats}
use Rattle.qf_ir.proofs.Repeats.{and-both}
use Rattle.qf_ir.proofs.Numbering.{each-append}
use Rattle.qf_ir.proofs.Accepted.{Accepted, none-or, not-false}

or-either : (a b : Bool) → (a || b) ≡ true → (a ≡ true) ⊎ (b ≡ true)
or-either true b e = inl refl
or-either false b e = inr e

-- ---- lists of columns

eq-sym : (c d : ℕ) → (c == d) ≡ (d == c)
eq-sym c d = grind (arith, nat_tests)

same-from-eq : (c d : ℕ) → (c == d) ≡ true → c ≡ d
same-from-eq c d e = grind (arith, nat_tests)

none-equal : (c : ℕ) (cs : List ℕ) → is_among cs c ≡ false → AllByRecursion (λ d. (c == d) ≡ false) cs
none-equal c [] none = tt
none-equal c (d ∷ cs) none = let both = none-or (c == d) (is_among cs c) none in (both.0, none-equal c cs both.1)

distinct-columns : (cs : List ℕ) → repeats cs ≡ false → IsDistinct (λ c d. c == d) cs
unfolding IsDistinct
distinct-columns [] once = tt
distinct-columns (c ∷ cs) once = let both = none-or (is_among cs c) (repeats cs) once in (none-equal c cs both.0, distinct-columns cs both.1)

all-below : (w : ℕ) (cs : List ℕ) → list_all (is_column w) cs ≡ true → (q : ℕ) → list_any (λ c. q == c) cs ≡ true → q < w
all-below w [] known q some = absurd (false≢true some)
all-below w (c ∷ cs) known q some =
    let both = and-both (nat_lt c w) (list_all (is_column w) cs) known in
    elim (or-either (q == c) (list_any (λ d. q == d) cs) some) [
      | inl e ↦ let same = same-from-eq q c e in let low : nat_lt c w ≡ true = both.0 in grind (arith, nat_tests)
      | inr e ↦ all-below w cs both.1 q e
    ]

abbrev without : ℕ → List ℕ → List ℕ
without c [] = []
without c (d ∷ ds) = if c == d then without c ds else d ∷ without c ds

without-le : (c : ℕ) (cs : List ℕ) → length (without c cs) ≤ length cs
without-le c [] = omega arith
without-le c (d ∷ ds) =
    let rest = without-le c ds in
    elim (c == d) as (λ b. length (if b then without c ds else d ∷ without c ds) ≤ suc (length ds)) [ true ↦ omega (arith, rest) | false ↦ omega (arith, rest) ]

without-fewer : (c : ℕ) (cs : List ℕ) → is_among cs c ≡ true → length (without c cs) + 1 ≤ length cs
without-fewer c [] some = absurd (false≢true some)
without-fewer c (d ∷ ds) some =
    elim (c == d) as (λ b. (b || is_among ds c) ≡ true → length (if b then without c ds else d ∷ without c ds) + 1 ≤ suc (length ds)) [
      | true ↦ λ s. let rest = without-le c ds in omega (arith, rest)
      | false ↦ λ s. let rest = without-fewer c ds s in omega (arith, rest)
    ] some

without-keeps : (c e : ℕ) (cs : List ℕ) → (e == c) ≡ false → is_among cs e ≡ true → is_among (without c cs) e ≡ true
without-keeps c e [] apart some = some
without-keeps c e (d ∷ ds) apart some =
    elim (c == d) as (λ b. (c == d) ≡ b → is_among (if b then without c ds else d ∷ without c ds) e ≡ true) [
      | true ↦ λ is. elim (or-either (e == d) (is_among ds e) some) [
        | inl h ↦ absurd (false≢true (sym apart ∙ ap (λ k. e == k) (same-from-eq c d is) ∙ h))
        | inr h ↦ without-keeps c e ds apart h
      ]
      | false ↦ λ is. elim (or-either (e == d) (is_among ds e) some) [
        | inl h ↦ ap (λ b. b || is_among (without c ds) e) h
        | inr h ↦ or-true (e == d) (is_among (without c ds) e) (without-keeps c e ds apart h)
      ]
    ] refl where
      or-true : (a b : Bool) → b ≡ true → (a || b) ≡ true
      or-true true b h = refl
      or-true false b h = h

-- a list that has all numbers below n has at least n of them
covers : (n : ℕ) (cs : List ℕ) → ((c : ℕ) → c < n → is_among cs c ≡ true) → n ≤ length cs
covers zero cs all = omega arith
covers (suc n) cs all =
    let fewer = without-fewer n cs (all n (omega arith)) in
    let rest = covers n (without n cs) (λ c lt. without-keeps n c cs (grind (arith, nat_tests)) (all c (omega arith))) in
    omega (arith, fewer, rest)

among-range : (a n : ℕ) (p : ℕ → Bool) → list_all p (range_with_len a n) ≡ true → (c : ℕ) → a ≤ c → c < a + n → p c ≡ true
among-range a zero p all c low high = absurd (omega arith)
among-range a (suc n) p all c low high =
    let both = and-both (p a) (list_all p (range_with_len (a + 1) n)) all in
    elim (a == c) as (λ b. (a == c) ≡ b → p c ≡ true) [
      | true ↦ λ e. ap p (sym (same-from-eq a c e)) ∙ both.0
      | false ↦ λ e. among-range (a + 1) n p both.1 c (grind (arith, nat_tests)) (omega arith)
    ] refl

place-range : (a n c : ℕ) → a ≤ c → c < a + n → place_from (range_with_len a n) c + a ≡ c
place-range a zero c low high = absurd (omega arith)
place-range a (suc n) c low high =
    elim (a == c) as (λ b. (a == c) ≡ b → (if b then 0 else place_from (range_with_len (a + 1) n) c + 1) + a ≡ c) [
      | true ↦ λ e. let same = same-from-eq a c e in omega (arith, same)
      | false ↦ λ e. let rest = place-range (a + 1) n c (grind (arith, nat_tests)) (omega arith) in omega (arith, rest)
    ] refl

place-listed : (w : ℕ) (columns : List ℕ) (c : ℕ) → c < w → place_of columns c ≡ place_from (listed w columns) c
place-listed w [] c low = let h = place-range 0 w c (omega arith) (omega arith) in omega (arith, h)
place-listed w (d ∷ ds) c low = refl

-- the columns of an INSERT are as many as the table's
listed-length : (w : ℕ) (columns : List ℕ) → list_all (is_column w) columns ≡ true → repeats columns ≡ false
    → list_all (is_among (listed w columns)) (range_with_len 0 w) ≡ true → length (listed w columns) ≡ w
listed-length w [] known once all = length-range_with_len 0 w
listed-length w (c ∷ cs) known once all =
    let few = length-le_from_distinct_below (c ∷ cs) w (distinct-columns (c ∷ cs) once) (all-below w (c ∷ cs) known) in
    let many = covers w (c ∷ cs) (λ d low. among-range 0 w (is_among (c ∷ cs)) all d (omega arith) (omega arith)) in
    omega (arith, few, many)

each-below : (w : ℕ) (cs : List ℕ) → list_all (is_column w) cs ≡ true → AllByRecursion (λ c. c < w) cs
each-below w [] known = tt
each-below w (c ∷ cs) known =
    let both = and-both (nat_lt c w) (list_all (is_column w) cs) known in
    let low : nat_lt c w ≡ true = both.0 in
    (grind (arith, nat_tests), each-below w cs both.1)

pub lists-all : (kinds : List ColumnKind) (s : Statement) → Accepted kinds s → ListsAll (length kinds) s
lists-all kinds (Update sets where_) ok = tt
lists-all kinds (Delete where_) ok = tt
lists-all kinds (Insert [] tuples) ok = tt
lists-all kinds (Insert (c ∷ cs) tuples) ok =
    let w = length kinds in
    let names = and-both (list_all (is_column w) (c ∷ cs)) _ ok.knows in
    let covered = none-or (not (list_all (is_among (listed w (c ∷ cs))) (range_with_len 0 w))) (not (list_all (λ tuple. length tuple == length (listed w (c ∷ cs))) tuples)) ok.full in
    (listed-length w (c ∷ cs) names.0 ok.once (not-false _ covered.0), each-below w (c ∷ cs) names.0)

module _ (kinds : List ColumnKind) (params texts : ℕ) where
  abbrev scope : Scope
  scope = record { kinds = kinds; params = params; texts = texts }

  abbrev pub InRange : ℕ → Type 0
  InRange k = (1 ≤ k) × (k ≤ params)

  -- an expression whose parts are there
  pub record Good (e : Expr) : Type 0 where
    pub made : IsMade e
    pub coded : IsCoded texts e
    pub in_range : AllByRecursion InRange (params_in e)

  some-int : (o : Option ColumnKind) → is_int_kind o ≡ true → o ≡ Some kind.Int
  some-int None e = absurd (false≢true e)
  some-int (Some kind.Int) e = refl
  some-int (Some kind.Text) e = absurd (false≢true e)

  some-text : (o : Option ColumnKind) → is_text_kind o ≡ true → o ≡ Some kind.Text
  some-text None e = absurd (false≢true e)
  some-text (Some kind.Int) e = absurd (false≢true e)
  some-text (Some kind.Text) e = refl

  number-atom : (a : Atom) → is_number kinds a ≡ true → AllByRecursion InRange (param_of a) → IsNumber scope a
  number-atom (Column c) e inside = some-int (slice_get kinds c) e
  number-atom (Param k) e inside = inside.0

  text-atom : (a : Atom) → is_text_column kinds a ≡ true → IsTextColumn scope a
  text-atom (Column c) e = some-text (slice_get kinds c) e
  text-atom (Param k) e = absurd (false≢true e)

  numbers : (ts : List Term) → list_all (λ (t : Term). is_number kinds t.atom) ts ≡ true
      → AllByRecursion InRange (flat_map (λ (t : Term). param_of t.atom) ts) → AreNumbers scope ts
  numbers [] e inside = tt
  numbers (t ∷ ts) e inside =
      let both = and-both (is_number kinds t.atom) (list_all (λ (t : Term). is_number kinds t.atom) ts) e in
      let parts = each-append InRange (param_of t.atom) (flat_map (λ (t : Term). param_of t.atom) ts) inside in
      (number-atom t.atom both.0 parts.0, numbers ts both.1 parts.1)

  int-of : (e : Expr) → is_int kinds e ≡ true → Good e → IsInt scope e
  int-of (Word code) h good = absurd (false≢true h)
  int-of (Sum []) h good = let some : 1 ≤ 0 = good.made.0 in absurd (omega (arith, some))
  int-of (Sum (t ∷ ts)) h good = numbers (t ∷ ts) h good.in_range

  text-of : (e : Expr) → is_text kinds e ≡ true → Good e → IsText scope e
  text-of (Word code) h good = good.coded
  text-of (Sum []) h good = absurd (false≢true h)
  text-of (Sum (t ∷ [])) h good =
      let both = and-both (int_eq t.factor (pos 1)) (is_text_column kinds t.atom) h in
      ((Decides-int_eq t.factor (pos 1)).0 both.0, text-atom t.atom both.1)
  text-of (Sum (t ∷ u ∷ ts)) h good = absurd (false≢true h)

  ints-of : (es : List Expr) → list_all (is_int kinds) es ≡ true → AllByRecursion Good es → AllOfKind scope kind.Int es
  ints-of [] h good = tt
  ints-of (e ∷ es) h good =
      let both = and-both (is_int kinds e) (list_all (is_int kinds) es) h in
      (int-of e both.0 good.0, ints-of es both.1 good.1)

  texts-of : (es : List Expr) → list_all (is_text kinds) es ≡ true → AllByRecursion Good es → AllOfKind scope kind.Text es
  texts-of [] h good = tt
  texts-of (e ∷ es) h good =
      let both = and-both (is_text kinds e) (list_all (is_text kinds) es) h in
      (text-of e both.0 good.0, texts-of es both.1 good.1)

  -- ---- conditions

  meets : (op : Op) → is_equality op ≡ true → MeetsTexts op
  meets Eq e = tt
  meets Ne e = tt
  meets Lt e = absurd (false≢true e)
  meets Le e = absurd (false≢true e)
  meets Gt e = absurd (false≢true e)
  meets Ge e = absurd (false≢true e)

  compare-typed : (op : Op) (l r : Expr) → test_agrees kinds (Compare op l r) ≡ true → AllByRecursion Good (l ∷ r ∷ []) → IsTyped scope (Compare op l r)
  compare-typed op l r h good =
      elim (or-either (list_all (is_int kinds) (l ∷ r ∷ [])) (is_equality op && list_all (is_text kinds) (l ∷ r ∷ [])) h) [
        | inl e ↦ inl (ints-of (l ∷ r ∷ []) e good)
        | inr e ↦ let both = and-both (is_equality op) (list_all (is_text kinds) (l ∷ r ∷ [])) e in inr (meets op both.0, texts-of (l ∷ r ∷ []) both.1 good)
      ]

  between-typed : (x lo hi : Expr) → test_agrees kinds (Between x lo hi) ≡ true → AllByRecursion Good (x ∷ lo ∷ hi ∷ []) → IsTyped scope (Between x lo hi)
  between-typed x lo hi h good =
      elim (or-either (list_all (is_int kinds) (x ∷ lo ∷ hi ∷ [])) false h) [
        | inl e ↦ ints-of (x ∷ lo ∷ hi ∷ []) e good
        | inr e ↦ absurd (false≢true e)
      ]

  within-typed : (x : Expr) (items : List Expr) → test_agrees kinds (Within x items) ≡ true → AllByRecursion Good (x ∷ items) → IsTyped scope (Within x items)
  within-typed x items h good =
      elim (or-either (list_all (is_int kinds) (x ∷ items)) (list_all (is_text kinds) (x ∷ items)) h) [
        | inl e ↦ inl (ints-of (x ∷ items) e good)
        | inr e ↦ inr (texts-of (x ∷ items) e good)
      ]

  abbrev Tested : List Cond → Type 0
  Tested tests = (list_all (test_agrees kinds) tests ≡ true) × AllByRecursion Good (flat_map exprs_in tests)

  tested-one : (test : Cond) → Tested (test ∷ []) → (test_agrees kinds test ≡ true) × AllByRecursion Good (exprs_in test)
  tested-one test tested = ((and-both _ _ tested.0).0, (each-append Good (exprs_in test) [] tested.1).0)

  tested-both : (xs ys : List Cond) → Tested (xs ++ ys) → Tested xs × Tested ys
  tested-both xs ys tested =
      let agrees = and-both _ _ (sym (list_all-append (test_agrees kinds) xs ys) ∙ tested.0) in
      let good = each-append Good (flat_map exprs_in xs) (flat_map exprs_in ys) (rw (flat_map-append exprs_in xs ys) at tested.1) in
      ((agrees.0, good.0), (agrees.1, good.1))

  mutual
    pub cond-typed : (cond : Cond) → Tested (tests_of cond) → IsTyped scope cond
    cond-typed (Compare op l r) tested = let one = tested-one (Compare op l r) tested in compare-typed op l r one.0 one.1
    cond-typed (Between x lo hi) tested = let one = tested-one (Between x lo hi) tested in between-typed x lo hi one.0 one.1
    cond-typed (Within x items) tested = let one = tested-one (Within x items) tested in within-typed x items one.0 one.1
    cond-typed (All' shape parts) tested = parts-typed parts tested
    cond-typed (Any' shape parts) tested = parts-typed parts tested
    cond-typed (Not' shape part) tested = parts-typed part tested

    parts-typed : {m : _} (parts : Row_of-Cond m) → Tested (tests_of_parts parts) → AreTyped scope parts
    parts-typed end_of-Cond tested = tt
    parts-typed (more_of-Cond part rest) tested =
        let both = tested-both (tests_of part) (tests_of_parts rest) tested in
        (cond-typed part both.0, parts-typed rest both.1)

  where-typed : (where_ : Option Cond) → Tested (flat_map tests_of (where_of where_)) → WhereTyped scope where_
  where-typed None tested = tt
  where-typed (Some cond) tested = cond-typed cond (tested-both (tests_of cond) [] tested).0

  -- ---- new values and items

  fits-kind : (k : ColumnKind) (e : Expr) → goes_into kinds (Some k) e ≡ true → Good e → HasKind scope k e
  fits-kind kind.Int e h good = int-of e h good
  fits-kind kind.Text e h good = text-of e h good

  fits : (o : Option ColumnKind) (e : Expr) → goes_into kinds o e ≡ true → Good e → Fits scope o e
  fits None e h good = absurd (false≢true h)
  fits (Some k) e h good = fits-kind k e h good

  sets-typed : (sets : List (ℕ × Expr)) → list_all (set_agrees kinds) sets ≡ true → repeats (map (λ (s : ℕ × Expr). s.0) sets) ≡ false
      → AllByRecursion Good (map (λ (s : ℕ × Expr). s.1) sets) → SetsTyped scope sets
  sets-typed [] h once good = tt
  sets-typed (s ∷ sets) h once good =
      let columns = map (λ (s : ℕ × Expr). s.0) sets in
      let both = and-both (set_agrees kinds s) (list_all (set_agrees kinds) sets) h in
      let none = none-or (is_among columns s.0) (repeats columns) once in (
        fits (slice_get kinds s.0) s.1 both.0 good.0,
        (λ there. false≢true (sym none.0 ∙ list_any-from_Contains nat_eq_equiv s.0 columns there)),
        sets-typed sets both.1 none.1 good.1,
      )

  item-found : (cs : List ℕ) (items : List Expr) (c : ℕ) (k : ColumnKind) → is_among cs c ≡ true → length items ≡ length cs
      → tuple_agrees kinds cs items ≡ true → AllByRecursion Good items → AllByRecursion IsItem items → slice_get kinds c ≡ Some k
      → ItemFits scope items (place_from cs c) k
  item-found [] items c k some same agrees good are got = absurd (false≢true some)
  item-found (d ∷ ds) [] c k some same agrees good are got = absurd (omega (arith, same))
  item-found (d ∷ ds) (e ∷ es) c k some same agrees good are got =
      let both = and-both (set_agrees kinds (d, e)) (tuple_agrees kinds ds es) agrees in
      elim (d == c) as (λ b. (d == c) ≡ b → ItemFits scope (e ∷ es) (if b then 0 else place_from ds c + 1) k) [
        | true ↦ λ is.
            let here : goes_into kinds (Some k) e ≡ true =
            ap (λ o. goes_into kinds o e) (sym got ∙ ap (slice_get kinds) (sym (same-from-eq d c is))) ∙ both.0 in
            (e, refl, are.0, fits-kind k e here good.0)
        | false ↦ λ is. elim (or-either (c == d) (is_among ds c) some) [
          | inl h ↦ absurd (false≢true (sym is ∙ eq-sym d c ∙ h))
          | inr h ↦
              let rest = item-found ds es c k h (omega (arith, same)) both.1 good.1 are.1 got in
              let there : slice_get (e ∷ es) (place_from ds c + 1) ≡ Some rest.0 = ap (slice_get (e ∷ es)) (add-one (place_from ds c)) ∙ rest.1 in
              (rest.0, there, rest.2, rest.3)
        ]
      ] refl

  -- what INSERT's checks say of its columns and tuples
  record Filled (columns : List ℕ) : Type 0 where
    pub width : length (listed (length kinds) columns) ≡ length kinds
    pub all : (c : ℕ) → c < length kinds → is_among (listed (length kinds) columns) c ≡ true

  record FitTuple (columns : List ℕ) (tuple : List Expr) : Type 0 where
    pub same_length : length tuple ≡ length (listed (length kinds) columns)
    pub agrees : tuple_agrees kinds (listed (length kinds) columns) tuple ≡ true
    pub good : AllByRecursion Good tuple
    pub items : AllByRecursion IsItem tuple

  filled : (columns : List ℕ) (tuple : List Expr) → Filled columns → FitTuple columns tuple → (n : ℕ) (ks : List ColumnKind) → n + length ks ≡ length kinds
      → ((i : ℕ) (k : ColumnKind) → slice_get ks i ≡ Some k → slice_get kinds (n + i) ≡ Some k) → ColumnsFilled scope columns tuple n ks
  filled columns tuple full fit n [] left at = fit.same_length ∙ full.width
  filled columns tuple full fit n (k ∷ ks) left at =
      let low : n < length kinds = omega (arith, left) in
      let here : n + 0 ≡ n = omega arith in
      let got : slice_get kinds n ≡ Some k = sym (ap (slice_get kinds) here) ∙ at 0 k refl in
      let item = item-found (listed (length kinds) columns) tuple n k (full.all n low) fit.same_length fit.agrees fit.good fit.items got in (
        subst (λ (p : ℕ). ItemFits scope tuple p k) (sym (place-listed (length kinds) columns n low)) item,
        filled columns tuple full fit (n + 1) ks (omega (arith, left))
            (λ i j got. let e : n + 1 + i ≡ n + suc i = omega arith in ap (slice_get kinds) e ∙ at (suc i) j got),
      )

  tuples-typed : (columns : List ℕ) (tuples : List (List Expr)) → Filled columns
      → list_all (tuple_agrees kinds (listed (length kinds) columns)) tuples ≡ true
      → list_all (λ tuple. length tuple == length (listed (length kinds) columns)) tuples ≡ true
      → AllByRecursion Good (flat_map (λ tuple. tuple) tuples) → AllByRecursion IsItem (flat_map (λ tuple. tuple) tuples) → TuplesTyped scope columns tuples
  tuples-typed columns [] full agrees long good items = tt
  tuples-typed columns (tuple ∷ tuples) full agrees long good items =
      let both = and-both (tuple_agrees kinds (listed (length kinds) columns) tuple) (list_all (tuple_agrees kinds (listed (length kinds) columns)) tuples) agrees in
      let lengths = and-both (length tuple == length (listed (length kinds) columns)) (list_all (λ tuple. length tuple == length (listed (length kinds) columns)) tuples) long in
      let parts = each-append Good tuple (flat_map (λ tuple. tuple) tuples) good in
      let are = each-append IsItem tuple (flat_map (λ tuple. tuple) tuples) items in
      let fit : FitTuple columns tuple = record { same_length = same-from-eq _ _ lengths.0; agrees = both.0; good = parts.0; items = are.0 } in (
        filled columns tuple full fit 0 kinds (omega arith) (λ i k got. let e : 0 + i ≡ i = omega arith in ap (slice_get kinds) e ∙ got),
        tuples-typed columns tuples full both.1 lengths.1 parts.1 are.1,
      )

  -- ---- statements

  pub statement-typed : (s : Statement) → Accepted kinds s → AllByRecursion Good (exprs_of s) → AllByRecursion IsItem (items_of s) → StatementTyped scope s
  statement-typed (Update sets where_) ok good items =
      let values = map (λ (s : ℕ × Expr). s.1) sets in
      let sides = flat_map exprs_in (flat_map tests_of (where_of where_)) in
      let agrees = and-both _ _ ok.agrees in
      let first = each-append Good (values ++ sides) [] good in
      let both = each-append Good values sides first.0 in
      (sets-typed sets agrees.0 ok.once both.0, where-typed where_ (agrees.1, both.1))
  statement-typed (Delete where_) ok good items =
      let sides = flat_map exprs_in (flat_map tests_of (where_of where_)) in
      where-typed where_ (ok.agrees, (each-append Good sides [] good).0)
  statement-typed (Insert columns tuples) ok good items =
      let w = length kinds in
      let agrees = and-both (list_all (tuple_agrees kinds (listed w columns)) tuples) true ok.agrees in
      let names = and-both _ _ ok.knows in
      let covered = none-or (not (list_all (is_among (listed w columns)) (range_with_len 0 w))) (not (list_all (λ tuple. length tuple == length (listed w columns)) tuples)) ok.full in
      let all = not-false _ covered.0 in
      let full : Filled columns = record {
        width = listed-length w columns names.0 ok.once all;
        all = λ c low. among-range 0 w (is_among (listed w columns)) all c (omega arith) (omega arith);
      } in
      tuples-typed columns tuples full agrees.0 (not-false _ covered.1) good items
