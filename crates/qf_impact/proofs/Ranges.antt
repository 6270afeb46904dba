-- A sound program sets its own columns alone, and names its own parameters alone.
use Rattle.std.proofs.Common.{◌≡◌, ◌∙◌, ap, sym, subst, refl, inl, inr, ℕ, zero, suc, ◌+◌, ◌<◌, ◌≤◌, Bool, true, false, ◌||◌, ◌==◌, nat_lt, if◌then◌else◌, List, [], ◌∷◌, length, slice_get, slice_index_or, arith}
use Rattle.std.specs.declared.option.Option.{Option}
use Rattle.std.specs.declared.option.Option.TheVariants.{Some, None}
use Rattle.std.specs.List.{list_any, AllByRecursion}
use Rattle.std.proofs.lemmas.Bool.Decides.{nat_tests}
use Rattle.std.proofs.lemmas.List.{get_or_past, length-map}
use Rattle.qf_ir.specs.declared.ast.Atom.TheVariants.{Param}
use Rattle.qf_ir.specs.declared.ast.Term.{Term}
use Rattle.qf_ir.specs.declared.ast.Expr.{Expr}
use Rattle.qf_ir.specs.declared.ast.Expr.TheVariants.{Sum, Word}
use Rattle.qf_ir.specs.declared.ast.Cond.{Cond, Row_of-Cond, end_of-Cond, more_of-Cond}
use Rattle.qf_ir.specs.declared.ast.Cond.TheVariants.{Compare, Between, Within, All', Any', Not'}
use Rattle.qf_ir.specs.declared.ast.Statement.{Statement}
use Rattle.qf_ir.specs.declared.ast.Statement.TheVariants.{Update, Delete, Insert}
use Rattle.qf_ir.specs.declared.table.Column.{Column as TableColumn}
use Rattle.qf_ir.specs.declared.table.ColumnKind.{ColumnKind}
use Rattle.qf_ir.specs.declared.table.ColumnKind.TheVariants as kind
use Rattle.qf_ir.specs.Replay.{place_from, place_of}
use Rattle.qf_ir.specs.Flow.{Place, Live, At, InTerms, InExpr, InExprs, InCond, InConds, InWhere, InSet, Inserts, Enters, Reaches}
use Rattle.qf_ir.specs.Typed.{Scope, IsNumber, IsTextColumn, AreNumbers, IsText, IsInt, HasKind, AllOfKind, IsTyped, AreTyped, WhereTyped, Fits, SetsTyped, ItemFits, ColumnsFilled, TuplesTyped, ListsColumns, ListsAll, StatementTyped, StatementsTyped}
use Rattle.qf_ir.specs.Plan.{Plan, IsSound, scope_of}
use Rattle.qf_impact.specs.Atoms.{expr_atoms}
use Rattle.qf_impact.specs.Steps.{is_param, has_item}
use Rattle.qf_impact.specs.Sets.{IsWithin}

module _ (scope : Scope) where
  -- ---- columns that are set

  kind-below : (kinds : List ColumnKind) (column : ℕ) (e : Expr) → Fits scope (slice_get kinds column) e → column < length kinds
  kind-below [] column e fits = absurd fits
  kind-below (k ∷ kinds) zero e fits = omega arith
  kind-below (k ∷ kinds) (suc column) e fits = let rest = kind-below kinds column e fits in omega (arith, rest)

  sets-below : length scope.kinds ≤ 32 → (sets : List (ℕ × Expr)) → SetsTyped scope sets → AllByRecursion (λ (s : ℕ × Expr). s.0 < 32) sets
  sets-below few [] typed = tt
  sets-below few (s ∷ sets) typed = let here = kind-below scope.kinds s.0 s.1 typed.0 in (omega (arith, here, few), sets-below few sets typed.2)

  filled-length : (columns : List ℕ) (tuple : List Expr) (n : ℕ) (kinds : List ColumnKind) → ColumnsFilled scope columns tuple n kinds → length tuple ≡ length scope.kinds
  filled-length columns tuple n [] filled = filled
  filled-length columns tuple n (k ∷ kinds) filled = filled-length columns tuple (n + 1) kinds filled.1

  unlisted : (w c : ℕ) → w ≤ c → (columns : List ℕ) → AllByRecursion (λ d. d < w) columns → place_from columns c ≡ length columns
  unlisted w c past [] below = refl
  unlisted w c past (d ∷ columns) below =
      let apart : (d == c) ≡ false = let h = below.0 in grind (arith, nat_tests, h) in
      let rest = unlisted w c past columns below.1 in
      ap (λ b. if b then 0 else place_from columns c + 1) apart ∙ omega (arith, rest)

  past-place : (w c : ℕ) → w ≤ c → (columns : List ℕ) → ListsColumns w columns → w ≤ place_of columns c
  past-place w c past [] lists = past
  past-place w c past (d ∷ columns) lists = let e = unlisted w c past (d ∷ columns) lists.1 in let n = lists.0 in omega (arith, e, n)

  no-item : (k c : ℕ) (columns : List ℕ) → length scope.kinds ≤ place_of columns c → (tuples : List (List Expr)) → TuplesTyped scope columns tuples
      → has_item k (place_of columns c) tuples ≡ false
  no-item k c columns past [] typed = refl
  no-item k c columns past (tuple ∷ tuples) typed =
      let len = filled-length columns tuple 0 scope.kinds typed.0 in
      let none : slice_index_or tuple (place_of columns c) (Word 0) ≡ Word 0 = get_or_past tuple (place_of columns c) (Word 0) (omega (arith, len, past)) in
      ap (λ e. list_any (is_param k) (expr_atoms e) || has_item k (place_of columns c) tuples) none ∙ no-item k c columns past tuples typed.1

  statement-within : (w : ℕ) → w ≡ length scope.kinds → w ≤ 32 → (s : Statement) → StatementTyped scope s → ListsAll w s → IsWithin s
  statement-within w same few (Update sets where_) typed lists = sets-below (omega (arith, same, few)) sets typed.0
  statement-within w same few (Delete where_) typed lists = tt
  statement-within w same few (Insert columns tuples) typed lists = λ k c past.
      let place = past-place w c (omega (arith, past, few)) columns lists in
      no-item k c columns (omega (arith, same, place)) tuples typed

  statements-within : (w : ℕ) → w ≡ length scope.kinds → w ≤ 32 → (ss : List Statement) → StatementsTyped scope ss → AllByRecursion (ListsAll w) ss → AllByRecursion IsWithin ss
  statements-within w same few [] typed lists = tt
  statements-within w same few (s ∷ ss) typed lists = (statement-within w same few s typed.0 lists.0, statements-within w same few ss typed.1 lists.1)

  -- ---- parameters that are named

  module _ (k : ℕ) where
    abbrev InRange : Type 0
    InRange = (1 ≤ k) × (k ≤ scope.params)

    numbers-range : (ts : List Term) → AreNumbers scope ts → InTerms (Param k) ts → InRange
    numbers-range [] typed named = absurd named
    numbers-range (t ∷ ts) typed named =
        elim named [ inl is ↦ subst (λ a. IsNumber scope a) is typed.0 | inr rest ↦ numbers-range ts typed.1 rest ]

    text-range : (e : Expr) → IsText scope e → InExpr (Param k) e → InRange
    text-range (Word code) typed named = absurd named
    text-range (Sum []) typed named = absurd named
    text-range (Sum (t ∷ [])) typed named = elim named [ inl is ↦ absurd (subst (λ a. IsTextColumn scope a) is typed.1) | inr none ↦ absurd none ]
    text-range (Sum (t ∷ u ∷ ts)) typed named = absurd typed

    int-range : (e : Expr) → IsInt scope e → InExpr (Param k) e → InRange
    int-range (Word code) typed named = absurd named
    int-range (Sum []) typed named = absurd named
    int-range (Sum (t ∷ ts)) typed named = numbers-range (t ∷ ts) typed named

    kind-range : (kd : ColumnKind) (e : Expr) → HasKind scope kd e → InExpr (Param k) e → InRange
    kind-range kind.Int e typed named = int-range e typed named
    kind-range kind.Text e typed named = text-range e typed named

    exprs-range : (kd : ColumnKind) (es : List Expr) → AllOfKind scope kd es → InExprs (Param k) es → InRange
    exprs-range kd [] typed named = absurd named
    exprs-range kd (e ∷ es) typed named = elim named [ inl here ↦ kind-range kd e typed.0 here | inr rest ↦ exprs-range kd es typed.1 rest ]

    mutual
      cond-range : (c : Cond) → IsTyped scope c → InCond (Param k) c → InRange
      cond-range (Compare op l r) typed named =
          elim typed [ inl ints ↦ exprs-range kind.Int (l ∷ r ∷ []) ints named | inr texts ↦ exprs-range kind.Text (l ∷ r ∷ []) texts.1 named ]
      cond-range (Between x lo hi) typed named = exprs-range kind.Int (x ∷ lo ∷ hi ∷ []) typed named
      cond-range (Within x items) typed named =
          elim typed [ inl ints ↦ exprs-range kind.Int (x ∷ items) ints named | inr texts ↦ exprs-range kind.Text (x ∷ items) texts named ]
      cond-range (All' shape parts) typed named = conds-range parts typed named
      cond-range (Any' shape parts) typed named = conds-range parts typed named
      cond-range (Not' shape part) typed named = conds-range part typed named

      conds-range : {m : _} (parts : Row_of-Cond m) → AreTyped scope parts → InConds (Param k) parts → InRange
      conds-range end_of-Cond typed named = absurd named
      conds-range (more_of-Cond part rest) typed named = elim named [ inl here ↦ cond-range part typed.0 here | inr later ↦ conds-range rest typed.1 later ]

    where-range : (w : Option Cond) → WhereTyped scope w → InWhere (Param k) w → InRange
    where-range None typed named = absurd named
    where-range (Some c) typed named = cond-range c typed named

    fits-range : (o : Option ColumnKind) (e : Expr) → Fits scope o e → InExpr (Param k) e → InRange
    fits-range None e fits named = absurd fits
    fits-range (Some kd) e fits named = kind-range kd e fits named

    set-range : (sets : List (ℕ × Expr)) (c : ℕ) → SetsTyped scope sets → InSet (Param k) sets c → InRange
    set-range [] c typed named = absurd named
    set-range (s ∷ sets) c typed named =
        elim named [ inl here ↦ fits-range (slice_get scope.kinds s.0) s.1 typed.0 here.1 | inr rest ↦ set-range sets c typed.2 rest ]

    -- the item at the place of a column of the table, and else none
    item-range : (columns : List ℕ) (tuple : List Expr) (n : ℕ) (kinds : List ColumnKind) → ColumnsFilled scope columns tuple n kinds → (c : ℕ) → n ≤ c → c < n + length kinds
        → InExpr (Param k) (slice_index_or tuple (place_of columns c) (Word 0)) → InRange
    item-range columns tuple n [] filled c low high named = absurd (omega (arith, low, high))
    item-range columns tuple n (kd ∷ kinds) filled c low high named = by-place (n == c) refl (λ low_next high_next. item-range columns tuple (n + 1) kinds filled.1 c low_next high_next named)
      where
        got-item : (items : List Expr) (p : ℕ) (item : Expr) → slice_get items p ≡ Some item → slice_index_or items p (Word 0) ≡ item
        got-item [] p item got = absurd (cc)
        got-item (x ∷ items) zero item got = cc
        got-item (x ∷ items) (suc p) item got = got-item items p item got

        by-place : (b : Bool) → (n == c) ≡ b → (n + 1 ≤ c → c < n + 1 + length kinds → InRange) → InRange
        by-place true e later =
            let same : n ≡ c = grind (arith, nat_tests) in
            let fits : ItemFits scope tuple (place_of columns n) kd = filled.0 in
            let is = got-item tuple (place_of columns n) fits.0 fits.1 in
            kind-range kd fits.0 fits.3
            (subst (λ x. InExpr (Param k) x) is (subst (λ d. InExpr (Param k) (slice_index_or tuple (place_of columns d) (Word 0))) (sym same) named))
        by-place false e later =
            let apart : (n ≡ c → ⊥) = grind (arith, nat_tests) in
            later (omega arith) (omega (arith, high))

    tuples-range : (w : ℕ) → w ≡ length scope.kinds → (columns : List ℕ) → ListsColumns w columns → (tuples : List (List Expr)) → TuplesTyped scope columns tuples → (c : ℕ)
        → Inserts k columns tuples c → InRange
    tuples-range w same columns lists [] typed c named = absurd named
    tuples-range w same columns lists (tuple ∷ tuples) typed c named =
        elim named [ inl here ↦ by-column (nat_lt c w) refl here | inr rest ↦ tuples-range w same columns lists tuples typed.1 c rest ]
      where
        by-column : (b : Bool) → nat_lt c w ≡ b → InExpr (Param k) (slice_index_or tuple (place_of columns c) (Word 0)) → InRange
        by-column true e here =
            let low : c < w = grind (arith, nat_tests) in
            item-range columns tuple 0 scope.kinds typed.0 c (omega arith) (omega (arith, low, same)) here
        by-column false e here =
            let past : w ≤ c = grind (arith, nat_tests) in
            let place = past-place w c past columns lists in
            let len = filled-length columns tuple 0 scope.kinds typed.0 in
            let none : slice_index_or tuple (place_of columns c) (Word 0) ≡ Word 0 = get_or_past tuple (place_of columns c) (Word 0) (omega (arith, len, same, place)) in
            absurd (subst (λ x. InExpr (Param k) x) none here)

    enters-range : (w : ℕ) → w ≡ length scope.kinds → (s : Statement) (place : Place) → StatementTyped scope s → ListsAll w s → Enters k s place → InRange
    enters-range w same (Update sets where_) Live typed lists enters = absurd enters
    enters-range w same (Update sets where_) (At c) typed lists enters =
        elim enters [ inl set ↦ set-range sets c typed.0 set | inr named ↦ where-range where_ typed.1 named.1 ]
    enters-range w same (Delete where_) Live typed lists enters = where-range where_ typed enters
    enters-range w same (Delete where_) (At c) typed lists enters = absurd enters
    enters-range w same (Insert columns tuples) Live typed lists enters = absurd enters
    enters-range w same (Insert columns tuples) (At c) typed lists enters = tuples-range w same columns lists tuples typed c enters

    reaches-range : (w : ℕ) → w ≡ length scope.kinds → (ss : List Statement) (place : Place) → StatementsTyped scope ss → AllByRecursion (ListsAll w) ss → Reaches k ss place → InRange
    reaches-range w same [] place typed lists reaches = absurd reaches
    reaches-range w same (s ∷ ss) place typed lists reaches =
        elim reaches [
          | inl here ↦ enters-range w same s here.0 typed.0 lists.0 here.1
          | inr later ↦ reaches-range w same ss place typed.1 lists.1 later
        ]

kinds-length : (plan : Plan) → length plan.columns ≡ length (scope_of plan).kinds
kinds-length plan = sym (length-map plan.columns (λ (c : TableColumn). c.kind))

pub plan-within : (plan : Plan) → IsSound plan → AllByRecursion IsWithin plan.statements
plan-within plan sound = statements-within (scope_of plan) (length plan.columns) (kinds-length plan) sound.few_columns plan.statements sound.typed sound.lists

-- a parameter that reaches something is one of the program's
pub plan-reaches : (plan : Plan) → IsSound plan → (k : ℕ) (place : Place) → Reaches k plan.statements place → (1 ≤ k) × (k ≤ length plan.olds)
plan-reaches plan sound k place reaches = reaches-range (scope_of plan) k (length plan.columns) (kinds-length plan) plan.statements place sound.typed sound.lists reaches
