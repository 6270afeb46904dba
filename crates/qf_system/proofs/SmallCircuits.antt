-- Definitions made for sums and conditions stay small where the widths are.
use Rattle.std.proofs.Common.{◌≡◌, ℕ, ◌+◌, ◌-◌, ◌*◌, ◌<◌, ◌≤◌, ◌^◌, Bool, true, false, cond, ◌&&◌, List, [], ◌∷◌, ◌++◌, length, map, get_or, slice_index_or, ℤ, pos, negsuc, ◌+ℤ◌, ◌-ℤ◌, unsigned_abs, sum_by, arith, refl, sym, ap, ◌∙◌, length-append}
use Rattle.std.specs.List.{list_any, list_all, position_or_len, AllByRecursion}
use Rattle.std.proofs.lemmas.Int.{ints}
use Rattle.std.proofs.lemmas.Bool.{and_parts}
use Rattle.std.proofs.lemmas.List.{get_or-append-add}
use Rattle.std.proofs.lemmas.List.Folds.{list_all-append}
use Rattle.std.proofs.lemmas.List.Sums.{sum_by-cons, sum_by-append}
use Rattle.qf_base.specs.Values.{Interval, Bounds, Term as Addend, interval_of_var, interval_at, int_sum_by}
use Rattle.qf_lin.specs.Inequalities.{largest_size}
use Rattle.qf_circuit.specs.declared.circuit.Def.{Def}
use Rattle.qf_circuit.specs.declared.circuit.Def.TheVariants as def
use Rattle.qf_circuit.specs.Circuits.{built, hull_of, hull_of_def, makes_truth}
use Rattle.qf_circuit.specs.Limits.{least_term, most_term}
use Rattle.qf_circuit.proofs.Built.{built_length, built_stays, built_each}
use Rattle.qf_rows.specs.Encoding.{negated}
use Rattle.qf_rows.specs.Limits.{SumFits}
use Rattle.qf_rows.specs.Systems.{IsModestSum, EndsWithin56}
use Rattle.qf_rows.proofs.Fitting.{size, sizes, factors_fit}
use Rattle.qf_rows.proofs.Small.{opposite-sizes, truth_ends}
use Rattle.qf_ir.specs.declared.ast.Atom.{Atom}
use Rattle.qf_ir.specs.declared.ast.Atom.TheVariants.{Column, Param}
use Rattle.qf_ir.specs.declared.ast.Term.{Term}
use Rattle.qf_ir.specs.declared.ast.Expr.{Expr}
use Rattle.qf_ir.specs.declared.ast.Expr.TheVariants.{Sum, Word}
use Rattle.qf_ir.specs.declared.ast.Op.{Op}
use Rattle.qf_ir.specs.declared.ast.Op.TheVariants.{Eq, Ne, Lt, Le, Gt, Ge}
use Rattle.qf_ir.specs.declared.ast.Cond.{Cond, Row_of-Cond, end_of-Cond, more_of-Cond}
use Rattle.qf_ir.specs.declared.ast.Cond.TheVariants.{Compare, Between, Within, All', Any', Not'}
use Rattle.qf_ir.specs.Width.{nothing_yet, plus, minus, is_narrow, atom_interval, term_interval, sum_interval, expr_interval, sum_steps, expr_steps, difference_steps, differences_steps, cond_steps, conds_steps}
use Rattle.qf_encode.specs.Coding.{Defs, Made, MadeAll, made, is_param, with_param, param_number, with_atom, with_terms, atom_number, addend, opposite, terms_in, constant_in, made_difference, made_sign, made_order, made_equal, made_not, made_compare, made_equals, made_cond, made_conds, made_one, made_value}
use Rattle.qf_encode.specs.Lives.{AtomIn, TermsIn, ExprIn, ExprsIn, CondIn, CondsIn, OneIn}
use Rattle.qf_system.specs.WidthsKept.{IsPlainExpr, ArePlain, IsPlainCond, ArePlainConds, LiesIn, HasSmallEnds}
use Rattle.qf_encode.proofs.Extending.{Later, later_itself, later_made, later_trans, param_found}
use Rattle.qf_encode.proofs.Following.{HasAtom, HasAtoms, with_terms_later, with_terms_has}
use Rattle.qf_system.proofs.SmallSums.{IsBoxOf, narrow_ends, product_lies, product_small, sum_of, plus_lies, sum_of-append, opposite_sum}

-- ---- each definition is small where it is made

abbrev pub Tame : Bounds → Bounds → Def → Type 0
Tame region hull d = IsModestSum hull d × (SumFits d × EndsWithin56 (hull_of_def region hull d))

abbrev pub TameFrom : Bounds → Bounds → Defs → Type 0
TameFrom region hull [] = Unit {0}
TameFrom region hull (d ∷ ds) = Tame region hull d × TameFrom region (hull ++ hull_of_def region hull d ∷ []) ds

abbrev pub IsTame : Bounds → Defs → Type 0
IsTame region defs = TameFrom region [] defs

tame_more : (region hull : Bounds) (ds : Defs) (d : Def) → TameFrom region hull ds → Tame region (built (hull_of_def region) hull ds) d → TameFrom region hull (ds ++ d ∷ [])
tame_more region hull [] d h k = (k, tt)
tame_more region hull (e ∷ ds) d h k = (h.0, tame_more region (hull ++ hull_of_def region hull e ∷ []) ds d h.1 k)

hull_append : (region hull : Bounds) (ds es : Defs) → built (hull_of_def region) hull (ds ++ es) ≡ built (hull_of_def region) (built (hull_of_def region) hull ds) es
hull_append region hull [] es = refl
hull_append region hull (d ∷ ds) es = hull_append region (hull ++ hull_of_def region hull d ∷ []) ds es

pub split_narrow : (xs ys : List Interval) → list_all is_narrow (xs ++ ys) ≡ true → (list_all is_narrow xs ≡ true) × (list_all is_narrow ys ≡ true)
split_narrow xs ys narrow = and_parts (list_all is_narrow xs) (list_all is_narrow ys) (sym (list_all-append is_narrow xs ys) ∙ narrow)

pub small_ends_56 : (i : Interval) → HasSmallEnds i → EndsWithin56 i
small_ends_56 i h = (omega (arith, h.0), omega (arith, h.1))

-- ---- sums of the widths

sum_total : (widths domains : Bounds) (before : Interval) (ts : List Term) → HasSmallEnds before → list_all is_narrow (sum_steps before ts widths domains) ≡ true → HasSmallEnds (plus before (sum_interval ts widths domains))
sum_total widths domains before [] h e = (omega (arith, ints, h.0), omega (arith, ints, h.1))
sum_total widths domains before (t ∷ ts) h e =
    let product = term_interval t widths domains in
    let first = and_parts (is_narrow product) (is_narrow (plus before product) && list_all is_narrow (sum_steps (plus before product) ts widths domains)) e in
    let second = and_parts (is_narrow (plus before product)) (list_all is_narrow (sum_steps (plus before product) ts widths domains)) first.1 in
    let more = sum_total widths domains (plus before product) ts (narrow_ends (plus before product) second.0) second.1 in
    (omega (arith, ints, more.0), omega (arith, ints, more.1))

abbrev pub NarrowTerms : Bounds → Bounds → List Term → Type 0
NarrowTerms widths domains ts = AllByRecursion (λ (t : Term). is_narrow (term_interval t widths domains) ≡ true) ts

narrow_terms : (widths domains : Bounds) (before : Interval) (ts : List Term) → list_all is_narrow (sum_steps before ts widths domains) ≡ true → NarrowTerms widths domains ts
narrow_terms widths domains before [] e = tt
narrow_terms widths domains before (t ∷ ts) e =
    let product = term_interval t widths domains in
    let first = and_parts (is_narrow product) (is_narrow (plus before product) && list_all is_narrow (sum_steps (plus before product) ts widths domains)) e in
    let second = and_parts (is_narrow (plus before product)) (list_all is_narrow (sum_steps (plus before product) ts widths domains)) first.1 in
    (first.0, narrow_terms widths domains (plus before product) ts second.1)

abbrev pub NarrowExpr : Bounds → Bounds → Expr → Type 0
NarrowExpr widths domains (Sum ts) = NarrowTerms widths domains ts
NarrowExpr widths domains (Word code) = Unit {0}

pub narrow_expr : (widths domains : Bounds) (e : Expr) → list_all is_narrow (expr_steps e widths domains) ≡ true → NarrowExpr widths domains e
narrow_expr widths domains (Sum ts) h = narrow_terms widths domains nothing_yet ts h
narrow_expr widths domains (Word code) h = tt

pub expr_total : (widths domains : Bounds) (e : Expr) → IsPlainExpr e → list_all is_narrow (expr_steps e widths domains) ≡ true → HasSmallEnds (expr_interval e widths domains)
expr_total widths domains (Sum ts) plain h =
    let total = sum_total widths domains nothing_yet ts (omega (arith, ints), omega (arith, ints)) h in
    (omega (arith, ints, total.0), omega (arith, ints, total.1))
expr_total widths domains (Word code) plain h = (omega (arith, ints, plain), omega (arith, ints, plain))

-- ---- a box of the domains

module _ (region domains : Bounds) (box : IsBoxOf domains region) where
  hull_length : (defs : Defs) → length (hull_of region defs) ≡ length defs
  hull_length defs = omega (arith, built_length (hull_of_def region) (pos 0, pos 0) [] defs)

  -- definition n has an interval in this one, with small ends
  abbrev pub Shown : Defs → ℕ → Interval → Type 0
  Shown defs n s = (0 < n) × ((n ≤ length defs) × (LiesIn (interval_of_var (hull_of region defs) n) s × HasSmallEnds (interval_of_var (hull_of region defs) n)))

  interval_later : (a b : Defs) (n : ℕ) → Later a b → 0 < n → n ≤ length a → interval_of_var (hull_of region b) n ≡ interval_of_var (hull_of region a) n
  interval_later a b n l p q =
      let e : b ≡ a ++ l.0 = l.1 in
      let whole = hull_append region [] a l.0 in
      let stays = built_stays (hull_of_def region) (pos 0, pos 0) (hull_of region a) l.0 (n - 1) (omega (arith, p, q, hull_length a)) in
      rw (e, whole) stays

  pub shown_later : (a b : Defs) (n : ℕ) (s : Interval) → Later a b → Shown a n s → Shown b n s
  shown_later a b n s l h =
      let e = interval_later a b n l h.0 h.1.0 in
      let e2 : b ≡ a ++ l.0 = l.1 in
      (h.0, (longer a b n l h.1.0, rw e h.1.1))
    where
      longer : (a b : Defs) (n : ℕ) → Later a b → n ≤ length a → n ≤ length b
      longer a b n l h = let e : b ≡ a ++ l.0 = l.1 in rw e (omega (arith, h, length-append a l.0))

  pub shown_made : (defs : Defs) (d : Def) (s : Interval) → LiesIn (hull_of_def region (hull_of region defs) d) s → HasSmallEnds (hull_of_def region (hull_of region defs) d) → Shown (defs ++ d ∷ []) (length defs + 1) s
  shown_made defs d s l h =
      let whole = hull_append region [] defs (d ∷ []) in
      let last = get_or-append-add (hull_of region defs) (hull_of_def region (hull_of region defs) d ∷ []) 0 (pos 0, pos 0) in
      let place : (length defs + 1) - 1 ≡ length (hull_of region defs) + 0 = omega (arith, hull_length defs) in
      (omega arith, (omega (arith, length-append defs (d ∷ [])), rw (whole, place, last) (l, h)))

  pub tame_made : (defs : Defs) (d : Def) → IsTame region defs → Tame region (hull_of region defs) d → IsTame region (defs ++ d ∷ [])
  tame_made defs d h k = tame_more region [] defs d h k

  pub truth_tame : (hull : Bounds) (d : Def) → makes_truth d ≡ true → EndsWithin56 (hull_of_def region hull d)
  truth_tame hull d e = let ends = truth_ends region hull d e in (omega (arith, ends.0), omega (arith, ends.1))

  -- ---- parameters

  param_tame : (hull : Bounds) (k : ℕ) → Tame region hull (def.Param k)
  param_tame hull k = (tt, (tt, small_ends_56 (interval_at region (k - 1)) (box.small (k - 1))))

  pub with_param_tame : (defs : Defs) (k : ℕ) → IsTame region defs → IsTame region (with_param defs k)
  with_param_tame defs k h = by (list_any (is_param k) defs)
    where
      by : (flag : Bool) → IsTame region (cond flag defs (defs ++ def.Param k ∷ []))
      by true = h
      by false = tame_made defs (def.Param k) h (param_tame (hull_of region defs) k)

  pub with_atom_tame : (defs : Defs) (atom : Atom) → IsTame region defs → IsTame region (with_atom defs atom)
  with_atom_tame defs (Column c) h = h
  with_atom_tame defs (Param k) h = with_param_tame defs k h

  with_terms_tame : (defs : Defs) (ts : List Term) → IsTame region defs → IsTame region (with_terms defs ts)
  with_terms_tame defs [] h = h
  with_terms_tame defs (t ∷ ts) h = with_terms_tame (with_atom defs t.atom) ts (with_atom_tame defs t.atom h)

  pub param_shown : (defs : Defs) (k : ℕ) → list_any (is_param k) defs ≡ true → Shown defs (param_number defs k) (interval_at domains (k - 1))
  param_shown defs k e =
      let found = param_found [] k defs e in
      let place = position_or_len (is_param k) defs in
      let at = built_each (hull_of_def region) (pos 0, pos 0) [] defs place found.0 in
      let zero_plus : 0 + place ≡ place = omega arith in
      let here = rw zero_plus at at.3 in
      let value : hull_of_def region at.0 (get_or defs place (def.Const (pos 0))) ≡ interval_at region (k - 1) = ap (hull_of_def region at.0) found.1 in
      let less : (place + 1) - 1 ≡ place = omega arith in
      let is = here ∙ value in
      (omega arith, (omega (arith, found.0), rw (less, is) (box.each (k - 1), box.small (k - 1))))

  -- ---- the columns of a row

  module _ (columns : List ℕ) (widths : Bounds) where
    abbrev pub ColumnsShown : Defs → Type 0
    ColumnsShown defs = (c : ℕ) → c < length columns → Shown defs (slice_index_or columns c 0) (interval_at widths c)

    pub columns_shown_later : (a b : Defs) → Later a b → ColumnsShown a → ColumnsShown b
    columns_shown_later a b l h = λ c inside. shown_later a b (slice_index_or columns c 0) (interval_at widths c) l (h c inside)

    atom_shown : (defs : Defs) (atom : Atom) → ColumnsShown defs → AtomIn (length columns) atom → HasAtom defs atom → Shown defs (atom_number defs columns atom) (atom_interval atom widths domains)
    atom_shown defs (Column c) h i p = h c i
    atom_shown defs (Param k) h i p = param_shown defs k p

    abbrev addends : Defs → List Term → List Addend
    addends defs ts = map (addend defs columns) ts

    sum_shown : (defs : Defs) (ts : List Term) → ColumnsShown defs → TermsIn (length columns) ts → HasAtoms defs ts → LiesIn (sum_of (hull_of region defs) (addends defs ts)) (sum_interval ts widths domains)
    sum_shown defs [] h i p = (omega (arith, ints), (omega (arith, ints), omega (arith, ints)))
    sum_shown defs (t ∷ ts) h i p =
        let hull = hull_of region defs in
        let own = (atom_shown defs t.atom h i.0 p.0).1.1.0 in
        let var = atom_number defs columns t.atom in
        let product = product_lies t.factor (interval_of_var hull var) (atom_interval t.atom widths domains) own in
        let more = sum_shown defs ts h i.1 p.1 in
        plus_lies (least_term hull (addend defs columns t), most_term hull (addend defs columns t)) (sum_of hull (addends defs ts)) (term_interval t widths domains) (sum_interval ts widths domains) product more

    sizes_shown : (defs : Defs) (ts : List Term) → ColumnsShown defs → TermsIn (length columns) ts → HasAtoms defs ts → NarrowTerms widths domains ts → sum_by (largest_size (hull_of region defs)) (addends defs ts) ≤ (2 ^ 50) * length ts
    sizes_shown defs [] h i p n = omega arith
    sizes_shown defs (t ∷ ts) h i p n =
        let hull = hull_of region defs in
        let own = (atom_shown defs t.atom h i.0 p.0).1.1.0 in
        let here = product_small hull (addend defs columns t) (atom_interval t.atom widths domains) own n.0 in
        omega (arith, here, sizes_shown defs ts h i.1 p.1 n.1, sum_by-cons (largest_size hull) (addend defs columns t) (addends defs ts))

    factors_shown : (defs : Defs) (ts : List Term) → AllByRecursion (λ (t : Term). unsigned_abs t.factor ≤ 1000000) ts → sizes (addends defs ts) ≤ 1000000 * length ts
    factors_shown defs [] h = omega arith
    factors_shown defs (t ∷ ts) h = omega (arith, h.0, factors_shown defs ts h.1, sum_by-cons size (addend defs columns t) (addends defs ts))

    -- ---- what a column is set to

    abbrev pub MakesShown : Defs → Made → Interval → Type 0
    MakesShown defs m s = Later defs m.0 × (IsTame region m.0 × Shown m.0 m.1 s)

    pub value_shown : (defs : Defs) (e : Expr) → IsTame region defs → ColumnsShown defs → ExprIn (length columns) e → IsPlainExpr e → list_all is_narrow (expr_steps e widths domains) ≡ true → MakesShown defs (made_value columns defs e) (expr_interval e widths domains)
    value_shown defs (Sum ts) tame h i plain narrow =
        let after = with_terms defs ts in
        let l = with_terms_later defs ts in
        let hull = hull_of region after in
        let d : Def = def.Linear (addends after ts) (pos 0) in
        let has = with_terms_has defs ts in
        let shown = columns_shown_later defs after l h in
        let sum = sum_shown after ts shown i has in
        let lies : LiesIn (hull_of_def region hull d) (sum_interval ts widths domains) = (omega (arith, ints, sum.0), (omega (arith, ints, sum.1.0), omega (arith, ints, sum.1.1))) in
        let total = expr_total widths domains (Sum ts) plain narrow in
        let ends : HasSmallEnds (hull_of_def region hull d) = (omega (arith, ints, lies.0, lies.1.0, lies.1.1, total.0, total.1), omega (arith, ints, lies.0, lies.1.0, lies.1.1, total.0, total.1)) in
        let sizes_small = sizes_shown after ts shown i has (narrow_expr widths domains (Sum ts) narrow) in
        let own : Tame region hull d = ((omega (arith, sizes_small, plain.0), omega (arith, ints)), (factors_fit (addends after ts) (pos 0) (omega (arith, plain.0, factors_shown after ts plain.1)) (omega (arith, ints)), small_ends_56 (hull_of_def region hull d) ends)) in
        (later_trans defs after (after ++ d ∷ []) l (later_made after d), (tame_made after d (with_terms_tame defs ts tame) own, shown_made after d (sum_interval ts widths domains) lies ends))
    value_shown defs (Word code) tame h i plain narrow =
        let d : Def = def.Const (pos code) in
        let ends : HasSmallEnds (pos code, pos code) = (omega (arith, ints, plain), omega (arith, ints, plain)) in
        (later_made defs d, (tame_made defs d tame (tt, (tt, small_ends_56 (pos code, pos code) ends)), shown_made defs d (pos code, pos code) (omega (arith, ints), (omega (arith, ints), omega (arith, ints))) ends))

    -- ---- differences

    abbrev pub Ready : Expr → Type 0
    Ready e = ExprIn (length columns) e × (IsPlainExpr e × NarrowExpr widths domains e)

    ready_terms : (e : Expr) → Ready e → TermsIn (length columns) (terms_in e) × ((length (terms_in e) ≤ 64) × (AllByRecursion (λ (t : Term). unsigned_abs t.factor ≤ 1000000) (terms_in e) × NarrowTerms widths domains (terms_in e)))
    ready_terms (Sum ts) h = (h.0, (h.1.0.0, (h.1.0.1, h.1.1)))
    ready_terms (Word code) h = (tt, (omega arith, (tt, tt)))

    ready_constant : (e : Expr) → Ready e → unsigned_abs (constant_in e) ≤ 2 ^ 32
    ready_constant (Sum ts) h = omega (arith, ints)
    ready_constant (Word code) h = omega (arith, ints, h.1.0)

    expr_lies : (defs : Defs) (e : Expr) → ColumnsShown defs → Ready e → HasAtoms defs (terms_in e) → LiesIn (int_sum_by (least_term (hull_of region defs)) (addends defs (terms_in e)) +ℤ constant_in e, int_sum_by (most_term (hull_of region defs)) (addends defs (terms_in e)) +ℤ constant_in e) (expr_interval e widths domains)
    expr_lies defs (Sum ts) h ready has =
        let sum = sum_shown defs ts h ready.0 has in
        (omega (arith, ints, sum.0), (omega (arith, ints, sum.1.0), omega (arith, ints, sum.1.1)))
    expr_lies defs (Word code) h ready has = (omega (arith, ints), (omega (arith, ints), omega (arith, ints)))

    has_split : (defs : Defs) (xs ys : List Term) → HasAtoms defs (xs ++ map opposite ys) → HasAtoms defs xs × HasAtoms defs ys
    has_split defs [] [] h = (tt, tt)
    has_split defs [] (y ∷ ys) h = (tt, (h.0, (has_split defs [] ys h.1).1))
    has_split defs (x ∷ xs) ys h = let more = has_split defs xs ys h.1 in ((h.0, more.0), more.1)

    addends_opposite : (defs : Defs) (ys : List Term) → addends defs (map opposite ys) ≡ map negated (addends defs ys)
    addends_opposite defs [] = refl
    addends_opposite defs (y ∷ ys) = let more = addends_opposite defs ys in rw more refl

    addends_split : (defs : Defs) (xs ys : List Term) → addends defs (xs ++ map opposite ys) ≡ addends defs xs ++ map negated (addends defs ys)
    addends_split defs [] ys = addends_opposite defs ys
    addends_split defs (x ∷ xs) ys = let more = addends_split defs xs ys in rw more refl

    opposite_factors : (us : List Addend) → sizes (map negated us) ≡ sizes us
    opposite_factors [] = refl
    opposite_factors (u ∷ us) = omega (arith, ints, opposite_factors us, sum_by-cons size u us, sum_by-cons size (negated u) (map negated us))

    difference_tame : (after : Defs) (left right : Expr) (n : ℤ) → ColumnsShown after → Ready left → Ready right → HasAtoms after (terms_in left) → HasAtoms after (terms_in right) → HasSmallEnds (minus (expr_interval left widths domains) (expr_interval right widths domains)) → unsigned_abs n ≤ 1 → Tame region (hull_of region after) (def.Linear (addends after (terms_in left) ++ map negated (addends after (terms_in right))) ((constant_in left -ℤ constant_in right) +ℤ n))
    difference_tame after left right n h a b has_a has_b between small =
        let hull = hull_of region after in
        let xs = addends after (terms_in left) in
        let ys = addends after (terms_in right) in
        let ta = ready_terms left a in
        let tb = ready_terms right b in
        let sizes_a = sizes_shown after (terms_in left) h ta.0 has_a ta.1.1.1 in
        let sizes_b = sizes_shown after (terms_in right) h tb.0 has_b tb.1.1.1 in
        let whole = sum_by-append (largest_size hull) xs (map negated ys) in
        let factors_a = factors_shown after (terms_in left) ta.1.1.0 in
        let factors_b = factors_shown after (terms_in right) tb.1.1.0 in
        let factors = sum_by-append size xs (map negated ys) in
        let ca = ready_constant left a in
        let cb = ready_constant right b in
        let la = expr_lies after left h a has_a in
        let lb = expr_lies after right h b has_b in
        let both = sum_of-append hull xs (map negated ys) in
        let turned = opposite_sum hull ys in (
          (omega (arith, whole, sizes_a, sizes_b, ta.1.0, tb.1.0, opposite-sizes hull ys), omega (arith, ints, ca, cb, small)),
          (
            factors_fit (xs ++ map negated ys) ((constant_in left -ℤ constant_in right) +ℤ n) (omega (arith, factors, factors_a, factors_b, ta.1.0, tb.1.0, opposite_factors ys)) (omega (arith, ints, ca, cb, small)),
            (
              omega (arith, ints, both.0, both.1, turned.0, turned.1, la.0, la.1.0, la.1.1, lb.0, lb.1.0, lb.1.1, between.0, between.1, small),
              omega (arith, ints, both.0, both.1, turned.0, turned.1, la.0, la.1.0, la.1.1, lb.0, lb.1.0, lb.1.1, between.0, between.1, small),
            ),
          ),
        )

    -- ---- tests and conditions

    abbrev pub MakesTame : Defs → Made → Type 0
    MakesTame defs m = Later defs m.0 × IsTame region m.0

    pub truth_made : (defs : Defs) (m : Defs) (d : Def) → makes_truth d ≡ true → IsModestSum (hull_of region m) d → SumFits d → Later defs m → IsTame region m → MakesTame defs (made m d)
    truth_made defs m d e modest fits l tame = (later_trans defs m (m ++ d ∷ []) l (later_made m d), tame_made m d tame (modest, (fits, truth_tame (hull_of region m) d e)))

    sign_tame : (defs : Defs) (left right : Expr) (n : ℤ) → unsigned_abs n ≤ 1 → IsTame region defs → ColumnsShown defs → Ready left → Ready right → HasSmallEnds (minus (expr_interval left widths domains) (expr_interval right widths domains)) → MakesTame defs (made_sign columns defs left right n)
    sign_tame defs left right n small tame h a b between =
        let ts = terms_in left ++ map opposite (terms_in right) in
        let after = with_terms defs ts in
        let l = with_terms_later defs ts in
        let has = has_split after (terms_in left) (terms_in right) (with_terms_has defs ts) in
        let m = made_difference columns defs left right n in
        let own = difference_tame after left right n (columns_shown_later defs after l h) a b has.0 has.1 between small in
        let e = addends_split after (terms_in left) (terms_in right) in
        let d : Def = def.Linear (addends after ts) ((constant_in left -ℤ constant_in right) +ℤ n) in
        let own2 : Tame region (hull_of region after) d = rw e own in
        let tame2 = tame_made after d (with_terms_tame defs ts tame) own2 in
        let later = later_trans defs after (after ++ d ∷ []) l (later_made after d) in
        truth_made defs m.0 (def.AtLeastZero m.1) refl tt tt later tame2

    order_tame : (defs : Defs) (a b c d : Expr) → IsTame region defs → ColumnsShown defs → Ready a → Ready b → Ready c → Ready d → HasSmallEnds (minus (expr_interval a widths domains) (expr_interval b widths domains)) → HasSmallEnds (minus (expr_interval c widths domains) (expr_interval d widths domains)) → MakesTame defs (made_order columns defs a b c d)
    order_tame defs a b c d tame h ra rb rc rd ab cd =
        let m = made_sign columns defs a b (pos 0) in
        let one = sign_tame defs a b (pos 0) (omega (arith, ints)) tame h ra rb ab in
        let n = made_sign columns m.0 c d (pos 0) in
        let two = sign_tame m.0 c d (pos 0) (omega (arith, ints)) one.1 (columns_shown_later defs m.0 one.0 h) rc rd cd in
        truth_made defs n.0 (def.All (m.1 ∷ n.1 ∷ [])) refl tt tt (later_trans defs m.0 n.0 one.0 two.0) two.1

    flipped : (s t : Interval) → HasSmallEnds (minus s t) → HasSmallEnds (minus t s)
    flipped s t h = (omega (arith, ints, h.0, h.1), omega (arith, ints, h.0, h.1))

    equal_tame : (defs : Defs) (left right : Expr) → IsTame region defs → ColumnsShown defs → Ready left → Ready right → HasSmallEnds (minus (expr_interval left widths domains) (expr_interval right widths domains)) → MakesTame defs (made_equal columns defs left right)
    equal_tame defs left right tame h a b between =
        order_tame defs left right right left tame h a b b a between (flipped (expr_interval left widths domains) (expr_interval right widths domains) between)

    pub not_tame : (defs : Defs) (m : Made) → MakesTame defs m → MakesTame defs (made_not m)
    not_tame defs m h = truth_made defs m.0 (def.Not m.1) refl tt tt h.0 h.1

    compare_tame : (defs : Defs) (op : Op) (left right : Expr) → IsTame region defs → ColumnsShown defs → Ready left → Ready right → HasSmallEnds (minus (expr_interval left widths domains) (expr_interval right widths domains)) → MakesTame defs (made_compare columns defs op left right)
    compare_tame defs Eq left right tame h a b between = equal_tame defs left right tame h a b between
    compare_tame defs Ne left right tame h a b between = not_tame defs (made_equal columns defs left right) (equal_tame defs left right tame h a b between)
    compare_tame defs Lt left right tame h a b between = sign_tame defs right left (negsuc 0) (omega (arith, ints)) tame h b a (flipped (expr_interval left widths domains) (expr_interval right widths domains) between)
    compare_tame defs Le left right tame h a b between = sign_tame defs right left (pos 0) (omega (arith, ints)) tame h b a (flipped (expr_interval left widths domains) (expr_interval right widths domains) between)
    compare_tame defs Gt left right tame h a b between = sign_tame defs left right (negsuc 0) (omega (arith, ints)) tame h a b between
    compare_tame defs Ge left right tame h a b between = sign_tame defs left right (pos 0) (omega (arith, ints)) tame h a b between

    abbrev pub MakesAllTame : Defs → MadeAll → Type 0
    MakesAllTame defs m = Later defs m.0 × IsTame region m.0

    difference_ready : (x item : Expr) → ExprIn (length columns) item → IsPlainExpr item → list_all is_narrow (difference_steps x item widths domains) ≡ true → Ready item × HasSmallEnds (minus (expr_interval x widths domains) (expr_interval item widths domains))
    difference_ready x item i plain narrow =
        let between = minus (expr_interval x widths domains) (expr_interval item widths domains) in
        let parts = split_narrow (expr_steps item widths domains) (between ∷ []) narrow in
        ((i, (plain, narrow_expr widths domains item parts.0)), narrow_ends between (and_parts (is_narrow between) true parts.1).0)

    equals_tame : (defs : Defs) (x : Expr) (items : List Expr) → IsTame region defs → ColumnsShown defs → Ready x → ExprsIn (length columns) items → ArePlain items → list_all is_narrow (differences_steps x items widths domains) ≡ true → MakesAllTame defs (made_equals columns defs x items)
    equals_tame defs x [] tame h a i p narrow = (later_itself defs, tame)
    equals_tame defs x (item ∷ items) tame h a i p narrow =
        let parts = split_narrow (difference_steps x item widths domains) (differences_steps x items widths domains) narrow in
        let ready = difference_ready x item i.0 p.0 parts.0 in
        let m = made_equal columns defs x item in
        let one = equal_tame defs x item tame h a ready.0 ready.1 in
        let rest = made_equals columns m.0 x items in
        let more = equals_tame m.0 x items one.1 (columns_shown_later defs m.0 one.0 h) a i.1 p.1 parts.1 in
        (later_trans defs m.0 rest.0 one.0 more.0, more.1)

    mutual
      pub cond_tame : (defs : Defs) (c : Cond) → IsTame region defs → ColumnsShown defs → CondIn (length columns) c → IsPlainCond c → list_all is_narrow (cond_steps c widths domains) ≡ true → MakesTame defs (made_cond columns defs c)
      cond_tame defs (Compare op left right) tame h i p narrow =
          let parts = split_narrow (expr_steps left widths domains) (difference_steps left right widths domains) narrow in
          let ready = difference_ready left right i.1 p.1 parts.1 in
          compare_tame defs op left right tame h (i.0, (p.0, narrow_expr widths domains left parts.0)) ready.0 ready.1
      cond_tame defs (Between x low high) tame h i p narrow =
          let parts = split_narrow (expr_steps x widths domains) (differences_steps x (low ∷ high ∷ []) widths domains) narrow in
          let more = split_narrow (difference_steps x low widths domains) (differences_steps x (high ∷ []) widths domains) parts.1 in
          let last = split_narrow (difference_steps x high widths domains) [] more.1 in
          let first = difference_ready x low i.1.0 p.1.0 more.0 in
          let second = difference_ready x high i.1.1 p.1.1 last.0 in
          let own : Ready x = (i.0, (p.0, narrow_expr widths domains x parts.0)) in
          order_tame defs x low high x tame h own first.0 second.0 own first.1 (flipped (expr_interval x widths domains) (expr_interval high widths domains) second.1)
      cond_tame defs (Within x items) tame h i p narrow =
          let parts = split_narrow (expr_steps x widths domains) (differences_steps x items widths domains) narrow in
          let m = made_equals columns defs x items in
          let all = equals_tame defs x items tame h (i.0, (p.0, narrow_expr widths domains x parts.0)) i.1 p.1 parts.1 in
          truth_made defs m.0 (def.Any m.1) refl tt tt all.0 all.1
      cond_tame defs (All' shape parts) tame h i p narrow =
          let m = made_conds columns defs parts in
          let all = conds_tame defs parts tame h i p narrow in
          truth_made defs m.0 (def.All m.1) refl tt tt all.0 all.1
      cond_tame defs (Any' shape parts) tame h i p narrow =
          let m = made_conds columns defs parts in
          let all = conds_tame defs parts tame h i p narrow in
          truth_made defs m.0 (def.Any m.1) refl tt tt all.0 all.1
      cond_tame defs (Not' shape part) tame h i p narrow = one_tame defs part tame h i p narrow

      conds_tame : (defs : Defs) → {m : _} → (parts : Row_of-Cond m) → IsTame region defs → ColumnsShown defs → CondsIn (length columns) parts → ArePlainConds parts → list_all is_narrow (conds_steps parts widths domains) ≡ true → MakesAllTame defs (made_conds columns defs parts)
      conds_tame defs end_of-Cond tame h i p narrow = (later_itself defs, tame)
      conds_tame defs (more_of-Cond part rest) tame h i p narrow =
          let halves = split_narrow (cond_steps part widths domains) (conds_steps rest widths domains) narrow in
          let m = made_cond columns defs part in
          let one = cond_tame defs part tame h i.0 p.0 halves.0 in
          let others = made_conds columns m.0 rest in
          let more = conds_tame m.0 rest one.1 (columns_shown_later defs m.0 one.0 h) i.1 p.1 halves.1 in
          (later_trans defs m.0 others.0 one.0 more.0, more.1)

      one_tame : (defs : Defs) → {m : _} → (part : Row_of-Cond m) → IsTame region defs → ColumnsShown defs → OneIn (length columns) part → ArePlainConds part → list_all is_narrow (conds_steps part widths domains) ≡ true → MakesTame defs (made_not (made_one columns defs part))
      one_tame defs end_of-Cond tame h i p narrow =
          not_tame defs (made defs (def.Const (pos 0))) (truth_made defs defs (def.Const (pos 0)) refl tt tt (later_itself defs) tame)
      one_tame defs (more_of-Cond part rest) tame h i p narrow =
          let halves = split_narrow (cond_steps part widths domains) (conds_steps rest widths domains) narrow in
          not_tame defs (made_cond columns defs part) (cond_tame defs part tame h i p.0 halves.0)
