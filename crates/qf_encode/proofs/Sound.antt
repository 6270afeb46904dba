-- What a sound program gives its statements.
use Rattle.std.proofs.Common.{◌≡◌, ℕ, ◌<◌, ◌≤◌, Bool, true, false, ◌||◌, eqb, List, [], ◌∷◌, ◌++◌, length, map, ℤ, unsigned_abs, inl, inr, arith, refl, eqb-true, append-nil}
use Rattle.std.specs.List.{AllByRecursion, list_any, flat_map, Contains, IsDistinct}
use Rattle.std.specs.declared.option.Option.TheVariants.{Some, None}
use Rattle.std.proofs.lemmas.List.{length-map}
use Rattle.std.proofs.lemmas.Grind.{flat_map-append}
use Rattle.std.proofs.lemmas.Map.Steps.{length-le_from_distinct_below}
use Rattle.std.proofs.lemmas.Map.Views.{Contains-from_any}
use Rattle.qf_ir.specs.declared.ast.Atom.{Atom}
use Rattle.qf_ir.specs.declared.ast.Atom.TheVariants.{Column, Param}
use Rattle.qf_ir.specs.declared.ast.Term.{Term}
use Rattle.qf_ir.specs.declared.ast.Expr.{Expr}
use Rattle.qf_ir.specs.declared.ast.Expr.TheVariants.{Sum, Word}
use Rattle.qf_ir.specs.declared.ast.Cond.{Cond, Row_of-Cond, end_of-Cond, more_of-Cond}
use Rattle.qf_ir.specs.declared.ast.Cond.TheVariants.{Compare, Between, Within, All', Any', Not'}
use Rattle.qf_ir.specs.declared.ast.Statement.{Statement}
use Rattle.qf_ir.specs.declared.ast.Statement.TheVariants.{Update, Delete, Insert}
use Rattle.qf_ir.specs.Parts.{exprs_in, tests_of, tests_of_parts, exprs_of, all_exprs, all_conds}
use Rattle.qf_ir.specs.Made.{FactorFits, IsMade, IsWhole, IsShallow, HasFewTerms, HasFewComparisons}
use Rattle.qf_ir.specs.Typed.{Scope, SetsTyped, StatementsTyped}
use Rattle.qf_ir.specs.Plan.{Plan, IsSound, scope_of}
use Rattle.qf_encode.specs.Lives.{SetsIn, StatementsIn}
use Rattle.qf_encode.specs.Making.{TermsTurn, ExprTurns, ExprsWith, CondWith, CondsWith, StatementTurns, StatementsTurn}
use Rattle.qf_encode.proofs.Typing.{statements_in}
use Rattle.qf_encode.proofs.Sizes.{SetsSmall, StatementsSmall}

all_split : {X : Type 0} (P : X → Type 0) (xs ys : List X) → AllByRecursion P (xs ++ ys) → AllByRecursion P xs × AllByRecursion P ys
all_split P [] ys h = (tt, h)
all_split P (x ∷ xs) ys h = let more = all_split P xs ys h.1 in ((h.0, more.0), more.1)

-- ---- a condition's expressions

module _ (P : Expr → Type 0) where
  exprs_with : (es : List Expr) → AllByRecursion P es → ExprsWith P es
  exprs_with [] h = tt
  exprs_with (e ∷ es) h = (h.0, exprs_with es h.1)

  mutual
    cond_with : (c : Cond) → AllByRecursion P (flat_map exprs_in (tests_of c)) → CondWith P c
    cond_with (Compare op l r) h = (h.0, h.1.0)
    cond_with (Between x lo hi) h = (h.0, (h.1.0, h.1.1.0))
    cond_with (Within x items) h = (h.0, exprs_with items (rw (append-nil items) at h.1))
    cond_with (All' shape parts) h = conds_with parts h
    cond_with (Any' shape parts) h = conds_with parts h
    cond_with (Not' shape part) h = conds_with part h

    conds_with : {m : _} → (parts : Row_of-Cond m) → AllByRecursion P (flat_map exprs_in (tests_of_parts parts)) → CondsWith P parts
    conds_with end_of-Cond h = tt
    conds_with (more_of-Cond part rest) h =
        let split = flat_map-append exprs_in (tests_of part) (tests_of_parts rest) in
        let halves = all_split P (flat_map exprs_in (tests_of part)) (flat_map exprs_in (tests_of_parts rest)) (rw split at h) in
        (cond_with part halves.0, conds_with rest halves.1)

  -- of WHERE
  filter_with : (c : Cond) → AllByRecursion P (flat_map exprs_in (flat_map tests_of (c ∷ []))) → CondWith P c
  filter_with c h = cond_with c (rw (append-nil (tests_of c)) at h)

-- ---- factors

factor_turns : (factor : ℤ) (atom : Atom) → FactorFits factor atom → unsigned_abs factor ≤ 1000000
factor_turns factor (Column c) h = h
factor_turns factor (Param k) (inl e) = rw e (omega arith)
factor_turns factor (Param k) (inr e) = rw e (omega arith)

terms_turn : (ts : List Term) → AllByRecursion (λ (t : Term). FactorFits t.factor t.atom) ts → TermsTurn ts
terms_turn [] h = tt
terms_turn (t ∷ ts) h = (factor_turns t.factor t.atom h.0, terms_turn ts h.1)

expr_turns : (e : Expr) → IsMade e → ExprTurns e
expr_turns (Sum ts) h = terms_turn ts h.1
expr_turns (Word code) h = tt

all_turn : (es : List Expr) → AllByRecursion IsMade es → AllByRecursion ExprTurns es
all_turn [] h = tt
all_turn (e ∷ es) h = (expr_turns e h.0, all_turn es h.1)

statement_turns : (s : Statement) → AllByRecursion ExprTurns (exprs_of s) → StatementTurns s
statement_turns (Update sets None) h = tt
statement_turns (Update sets (Some c)) h =
    let values = map (λ (s : ℕ × Expr). s.1) sets in
    let tests = flat_map exprs_in (flat_map tests_of (c ∷ [])) in
    filter_with ExprTurns c (all_split ExprTurns values tests (all_split ExprTurns (values ++ tests) [] h).0).1
statement_turns (Delete None) h = tt
statement_turns (Delete (Some c)) h =
    filter_with ExprTurns c (all_split ExprTurns (flat_map exprs_in (flat_map tests_of (c ∷ []))) [] h).0
statement_turns (Insert columns tuples) h = tt

statements_turn : (statements : List Statement) → AllByRecursion IsMade (all_exprs statements) → StatementsTurn statements
statements_turn [] h = tt
statements_turn (s ∷ statements) h =
    let halves = all_split IsMade (exprs_of s) (all_exprs statements) h in
    (statement_turns s (all_turn (exprs_of s) halves.0), statements_turn statements halves.1)

-- ---- columns that are set

none_of : (x : ℕ) (xs : List ℕ) → list_any (eqb x) xs ≡ false → AllByRecursion (λ y. eqb x y ≡ false) xs
none_of x [] e = tt
none_of x (y ∷ ys) e = let halves = both (eqb x y) (list_any (eqb x) ys) e in (halves.0, none_of x ys halves.1)
  where
    both : (a b : Bool) → (a || b) ≡ false → (a ≡ false) × (b ≡ false)
    both true b e = absurd (cc)
    both false b e = (refl, e)

apart : (x : ℕ) (xs : List ℕ) → (Contains xs x → ⊥) → AllByRecursion (λ y. eqb x y ≡ false) xs
apart x xs h = none_of x xs (by (list_any (eqb x) xs) refl)
  where
    by : (b : Bool) → list_any (eqb x) xs ≡ b → b ≡ false
    by true e = absurd (h (Contains-from_any eqb-true x xs e))
    by false e = refl

module _ (scope : Scope) where
  distinct : (sets : List (ℕ × Expr)) → SetsTyped scope sets → IsDistinct eqb (map (λ (s : ℕ × Expr). s.0) sets)
  unfolding IsDistinct
  distinct [] h = tt
  distinct (s ∷ sets) h = (apart s.0 (map (λ (s : ℕ × Expr). s.0) sets) h.1, distinct sets h.2)

below : (width : ℕ) (sets : List (ℕ × Expr)) → SetsIn width sets → (q : ℕ) → list_any (eqb q) (map (λ (s : ℕ × Expr). s.0) sets) ≡ true → q < width
below width [] h q e = absurd (cc)
below width (s ∷ sets) h q e = by (eqb q s.0) refl (λ more. below width sets h.1.1 q more) e
  where
    by : (b : Bool) → eqb q s.0 ≡ b → (list_any (eqb q) (map (λ (s : ℕ × Expr). s.0) sets) ≡ true → q < width) → (b || list_any (eqb q) (map (λ (s : ℕ × Expr). s.0) sets)) ≡ true → q < width
    by true is more e = let same = eqb-true q s.0 is in rw same h.0
    by false is more e = more e

few_sets : (scope : Scope) (sets : List (ℕ × Expr)) → SetsTyped scope sets → SetsIn (length scope.kinds) sets → length sets ≤ length scope.kinds
few_sets scope sets h k =
    let columns = map (λ (s : ℕ × Expr). s.0) sets in
    omega (arith, length-le_from_distinct_below columns (length scope.kinds) (distinct scope sets h) (below (length scope.kinds) sets k), length-map sets (λ (s : ℕ × Expr). s.0))

-- ---- sizes

sets_small : (sets : List (ℕ × Expr)) → AllByRecursion HasFewTerms (map (λ (s : ℕ × Expr). s.1) sets) → SetsSmall sets
sets_small [] h = tt
sets_small (s ∷ sets) h = (h.0, sets_small sets h.1)

module _ (scope : Scope) (few : length scope.kinds ≤ 32) where
  statements_small : (statements : List Statement) → StatementsTyped scope statements → StatementsIn (length scope.kinds) statements → AllByRecursion HasFewTerms (all_exprs statements) → AllByRecursion IsWhole (all_conds statements) → AllByRecursion IsShallow (all_conds statements) → AllByRecursion HasFewComparisons (all_conds statements) → StatementsSmall statements
  statements_small [] typed within t w d n = tt
  statements_small (Update sets None ∷ statements) typed within t w d n =
      let halves = all_split HasFewTerms (exprs_of (Update sets None)) (all_exprs statements) t in
      let values = map (λ (s : ℕ × Expr). s.1) sets in
      let own = all_split HasFewTerms values [] (all_split HasFewTerms (values ++ []) [] halves.0).0 in
      ((omega (arith, few, few_sets scope sets typed.0.0 within.0.0), (sets_small sets own.0, tt)), statements_small statements typed.1 within.1 halves.1 w d n)
  statements_small (Update sets (Some c) ∷ statements) typed within t w d n =
      let halves = all_split HasFewTerms (exprs_of (Update sets (Some c))) (all_exprs statements) t in
      let values = map (λ (s : ℕ × Expr). s.1) sets in
      let tests = flat_map exprs_in (flat_map tests_of (c ∷ [])) in
      let own = all_split HasFewTerms values tests (all_split HasFewTerms (values ++ tests) [] halves.0).0 in
      ((omega (arith, few, few_sets scope sets typed.0.0 within.0.0), (sets_small sets own.0, (filter_with HasFewTerms c own.1, (w.0, (d.0, n.0))))), statements_small statements typed.1 within.1 halves.1 w.1 d.1 n.1)
  statements_small (Delete None ∷ statements) typed within t w d n = (tt, statements_small statements typed.1 within.1 t w d n)
  statements_small (Delete (Some c) ∷ statements) typed within t w d n =
      let halves = all_split HasFewTerms (exprs_of (Delete (Some c))) (all_exprs statements) t in
      let tests = all_split HasFewTerms (flat_map exprs_in (flat_map tests_of (c ∷ []))) [] halves.0 in
      ((filter_with HasFewTerms c tests.0, (w.0, (d.0, n.0))), statements_small statements typed.1 within.1 halves.1 w.1 d.1 n.1)
  statements_small (Insert columns tuples ∷ statements) typed within t w d n =
      let halves = all_split HasFewTerms (exprs_of (Insert columns tuples)) (all_exprs statements) t in
      (tt, statements_small statements typed.1 within.1 halves.1 w d n)

-- ---- a program

pub plan_width : (plan : Plan) → length (scope_of plan).kinds ≡ length plan.columns
plan_width plan = length-map plan.columns (λ c. c.kind)

pub plan_in : (plan : Plan) → IsSound plan → StatementsIn (length plan.columns) plan.statements
plan_in plan sound = let e = plan_width plan in rw e at (statements_in (scope_of plan) plan.statements sound.typed)

pub plan_turns : (plan : Plan) → IsSound plan → StatementsTurn plan.statements
plan_turns plan sound = statements_turn plan.statements sound.made.exprs

pub plan_small : (plan : Plan) → IsSound plan → StatementsSmall plan.statements
plan_small plan sound =
    let e = plan_width plan in
    statements_small (scope_of plan) (omega (arith, e, sound.few_columns)) plan.statements sound.typed (statements_in (scope_of plan) plan.statements sound.typed) sound.few_terms sound.made.whole sound.made.shallow sound.few_comparisons
