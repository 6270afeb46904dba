-- An inequality of one variable that is violated leaves the bounds empty.
use Rattle.std.proofs.Common.{◌≡◌, ◌≢◌, ◌∙◌, ap, sym, subst, refl, arith, inl, inr, ℕ, zero, suc, ◌+◌, ◌-◌, ◌<◌, ◌≤◌, ℤ, pos, ◌-ℤ◌, ◌*ℤ◌, ◌<ℤ◌, neg_ℤ, int_lt, Bool, true, false, cond, ◌||◌, List, [], ◌∷◌, length, get_or, slice_get, slice_index_or, slice_set, ◌^◌, IsTrue}
use Rattle.std.specs.declared.option.Option.TheVariants.{Some}
use Rattle.std.specs.Int.{int_min, int_max}
use Rattle.std.proofs.lemmas.Int.{ints, clamps}
use Rattle.std.proofs.lemmas.Bool.{eq-eqb, cases_eq}
use Rattle.std.proofs.lemmas.List.{get_or_default}
use Rattle.std.proofs.lemmas.List.Elements.{All-append, All-nil}
use Rattle.qf_base.specs.declared.names.Bound.{Bound}
use Rattle.qf_base.specs.Values.{Interval, Bounds, Term, interval_of_var}
use Rattle.qf_base.proofs.Integers.{product_up, rounded_down_below, product_neg_left, product_neg_right, int_lt_yes, int_lt_true, int_lt_false, int_apart_above}
use Rattle.qf_lin.specs.declared.inequality.Inequality.{Inequality}
use Rattle.qf_lin.specs.declared.inequality.System.{System}
use Rattle.qf_lin.specs.declared.step.Step.{Step}
use Rattle.qf_lin.specs.declared.step.Step.TheVariants.{Tight, Empty}
use Rattle.qf_lin.specs.Inequalities.{greatest, greatest_of_others, factor_of, rounded_down, bound_by, tight_bound, taken, with_bound, is_empty}
use Rattle.qf_lin.proofs.Tightening.{tight_bound_given}
use Rattle.qf_tree.specs.Steps.{RowFits, RowsFit}
use Rattle.qf_tree.specs.Refutations.{IsRefutation, by_tight, by_empty}
use Rattle.qf_tree.specs.Lines.{StepsFit, line_fits, step_line}
use Rattle.qf_tree.proofs.StepLemmas.{tight_step_at}
use Rattle.qf_prop.proofs.SmallBounds.{small_step, tight_bound-small}
use Rattle.qf_search.specs.Closing.{is_violated, row_at, no_row, AreSingle}

-- ---- one variable's interval

below_low : (factor least : ℤ) (low high : ℤ) → factor <ℤ pos 0 → (factor *ℤ low) <ℤ least → rounded_down (pos 0 -ℤ least) (neg_ℤ factor) <ℤ low
below_low factor least low high sign short =
    let h = rounded_down (pos 0 -ℤ least) (neg_ℤ factor) in
    let kept = rounded_down_below (pos 0 -ℤ least) (neg_ℤ factor) (omega (arith, ints)) in
    elim (int_lt h low) as (λ b. int_lt h low ≡ b → h <ℤ low) [
      | true ↦ λ e. int_lt_true h low e
      | false ↦ λ e.
          let up = product_up (neg_ℤ factor) low h (omega (arith, ints)) (int_lt_false h low e) in
          absurd (omega (arith, ints, up, kept, short, product_neg_left factor low))
    ] refl

above_high : (factor least : ℤ) (low high : ℤ) → pos 0 <ℤ factor → (factor *ℤ high) <ℤ least → high <ℤ neg_ℤ (rounded_down (neg_ℤ (least -ℤ pos 0)) factor)
above_high factor least low high sign short =
    let m = rounded_down (neg_ℤ (least -ℤ pos 0)) factor in
    let kept = rounded_down_below (neg_ℤ (least -ℤ pos 0)) factor sign in
    elim (int_lt high (neg_ℤ m)) as (λ b. int_lt high (neg_ℤ m) ≡ b → high <ℤ neg_ℤ m) [
      | true ↦ λ e. int_lt_true high (neg_ℤ m) e
      | false ↦ λ e.
          let up = product_up factor (neg_ℤ m) high (omega (arith, ints)) (int_lt_false high (neg_ℤ m) e) in
          absurd (omega (arith, ints, up, kept, short, product_neg_right factor m))
    ] refl

crosses_by : (flag : Bool) (factor least : ℤ) (i : Interval) → int_lt factor (pos 0) ≡ flag → factor ≢ pos 0 → cond flag (factor *ℤ i.0) (factor *ℤ i.1) <ℤ least → int_lt (taken (bound_by factor (pos 0) least) i).1 (taken (bound_by factor (pos 0) least) i).0 ≡ true
crosses_by true factor least i e apart short =
    let h = rounded_down (pos 0 -ℤ least) (neg_ℤ factor) in
    let low = below_low factor least i.0 i.1 (int_lt_true factor (pos 0) e) short in
    rw e (int_lt_yes (int_min i.1 h) i.0 (omega (arith, ints, clamps, low)))
crosses_by false factor least i e apart short =
    let n = neg_ℤ (rounded_down (neg_ℤ (least -ℤ pos 0)) factor) in
    let high = above_high factor least i.0 i.1 (int_apart_above factor (int_lt_false factor (pos 0) e) apart) short in
    rw e (int_lt_yes i.1 (int_max i.0 n) (omega (arith, ints, clamps, high)))

or_right : (a b : Bool) → b ≡ true → (a || b) ≡ true
or_right true b e = refl
or_right false b e = e

empty_set : (bounds : Bounds) (place : ℕ) (i : Interval) → place < length bounds → int_lt i.1 i.0 ≡ true → is_empty (slice_set bounds place i) ≡ true
empty_set [] place i inside e = absurd (omega (arith, inside))
empty_set (b ∷ bounds) zero i inside e = rw e refl
empty_set (b ∷ bounds) (suc place) i inside e = or_right (int_lt b.1 b.0) (is_empty (slice_set bounds place i)) (empty_set bounds place i (omega (arith, inside)) e)

-- ---- an inequality of one variable

factor_one : (t : Term) → factor_of (t ∷ []) t.1 ≡ t.0
factor_one t = let same = eq-eqb t.1 t.1 refl in rw same (omega (arith, ints))

others_one : (t : Term) (bounds : Bounds) → greatest_of_others (t ∷ []) bounds t.1 ≡ pos 0
others_one t bounds = let same = eq-eqb t.1 t.1 refl in rw same refl

abbrev one_row : Term → ℤ → Inequality
one_row t least = record { terms = t ∷ []; least = least }

crossed : (t : Term) (least : ℤ) (bounds : Bounds) → t.0 ≢ pos 0 → 0 < t.1 → t.1 ≤ length bounds → is_violated bounds (one_row t least) ≡ true → is_empty (with_bound bounds t.1 (tight_bound (one_row t least) bounds t.1)) ≡ true
crossed t least bounds apart first last violated =
    let i = interval_of_var bounds t.1 in
    let short = int_lt_true (greatest (t ∷ []) bounds) least violated in
    let is : tight_bound (one_row t least) bounds t.1 ≡ bound_by t.0 (pos 0) least = rw (factor_one t, others_one t bounds) refl in
    let lost = crosses_by (int_lt t.0 (pos 0)) t.0 least i refl apart (omega (arith, ints, short)) in
    subst (λ (b : Bound). is_empty (slice_set bounds (t.1 - 1) (taken b i)) ≡ true) (sym is)
    (empty_set bounds (t.1 - 1) (taken (bound_by t.0 (pos 0) least) i) (omega (arith, first, last)) lost)

terms_one : (terms : List Term) → length terms ≡ 1 → (t : Term) × (terms ≡ t ∷ [])
terms_one [] e = absurd (omega (arith, e))
terms_one (t ∷ []) e = (t, refl)
terms_one (t ∷ u ∷ ts) e = absurd (omega (arith, e))

abbrev var_of : Inequality → ℕ
var_of row = (slice_index_or row.terms 0 (pos 0, 0)).1

pub record IsUsable (row : Inequality) (bounds : Bounds) : Type 0 where
  pub apart : factor_of row.terms (var_of row) ≢ pos 0
  pub first : 0 < var_of row
  pub last : var_of row ≤ length bounds
  pub crosses : is_violated bounds row ≡ true → is_empty (with_bound bounds (var_of row) (tight_bound row bounds (var_of row))) ≡ true

usable_one : (t : Term) (least : ℤ) (bounds : Bounds) → RowFits bounds (one_row t least) → IsUsable (one_row t least) bounds
usable_one t least bounds fits =
    let named = fits.named 0 (pos 0, 0) (omega arith) in
    let apart = fits.proper.0 0 (pos 0, 0) (omega arith) in
    record {
      apart = λ e. apart (sym (factor_one t) ∙ e);
      first = named.0;
      last = named.1;
      crosses = λ violated. crossed t least bounds apart named.0 named.1 violated;
    }

pub usable : (row : Inequality) (bounds : Bounds) → RowFits bounds row → length row.terms ≡ 1 → IsUsable row bounds
usable row bounds fits one =
    let t = terms_one row.terms one in
    let at = λ (terms : List Term). IsUsable (record { terms = terms; least = row.least }) bounds in
    subst at (sym t.1) (usable_one t.0 row.least bounds (subst (λ (terms : List Term). RowFits bounds (record { terms = terms; least = row.least })) t.1 fits))

got : {X : Type 0} (xs : List X) (k : ℕ) (d : X) → k < length xs → slice_get xs k ≡ Some (get_or xs k d)
got [] k d inside = absurd (omega (arith, inside))
got (x ∷ xs) zero d inside = refl
got (x ∷ xs) (suc k) d inside = got xs k d (omega (arith, inside))

-- the step on a violated inequality of one variable, and then the end, refute the bounds
pub closes : (system : System) (bounds : Bounds) (place : ℕ) (row : Inequality) (step : Step) → RowsFit system bounds → place < length system.inequalities → row ≡ row_at system.inequalities place → length row.terms ≡ 1 → is_violated bounds row ≡ true → step ≡ Tight (place + 1) (var_of row) (tight_bound row bounds (var_of row)) → IsRefutation system bounds (step ∷ Empty ∷ [])
closes system bounds place row step fits inside is one violated e =
    let fit = subst (RowFits bounds) (sym is) (fits.rows place no_row inside) in
    let use_it = usable row bounds fit one in
    let var = var_of row in
    let bound = tight_bound row bounds var in
    let back : place + 1 - 1 ≡ place = omega arith in
    let there : slice_get system.inequalities (place + 1 - 1) ≡ Some row = ap (slice_get system.inequalities) back ∙ (got system.inequalities place no_row inside ∙ ap (λ (r : Inequality). Some r) (sym is)) in
    let right = sym (tight_step_at system bounds (place + 1) var bound row fits.not_empty use_it.first use_it.last (omega arith) (omega (arith, inside)) there) ∙ tight_bound_given row bounds var use_it.apart in
    subst (λ (s : Step). IsRefutation system bounds (s ∷ Empty ∷ [])) (sym e) (by_tight right (by_empty (use_it.crosses violated)))

-- ---- .. and both can be written

abbrev CanBeWritten : Step → Type 0
CanBeWritten s = IsTrue (line_fits (step_line s))

end_fits : StepsFit (Empty ∷ [])
end_fits = λ k d within. rw (only k (omega arith)) refl
  where
    only : (k : ℕ) → k < 1 → k ≡ 0
    only k h = omega arith

pub written : (system : System) (bounds : Bounds) (place : ℕ) (row : Inequality) (step : Step) → RowsFit system bounds → length system.inequalities < 2 ^ 32 → length bounds < 2 ^ 32 → place < length system.inequalities → row ≡ row_at system.inequalities place → length row.terms ≡ 1 → step ≡ Tight (place + 1) (var_of row) (tight_bound row bounds (var_of row)) → StepsFit (step ∷ Empty ∷ [])
written system bounds place row step fits few vars inside is one e =
    let fit = subst (RowFits bounds) (sym is) (fits.rows place no_row inside) in
    let use_it = usable row bounds fit one in
    let var = var_of row in
    let bound = tight_bound row bounds var in
    let last = use_it.last in
    let tight : StepsFit (Tight (place + 1) var bound ∷ []) = small_step [] (Tight (place + 1) var bound ∷ []) (place + 1) var bound (omega arith) (omega (arith, inside, few)) use_it.first (omega (arith, last, vars)) (tight_bound-small row bounds var fit.small use_it.apart) refl (All-nil CanBeWritten) in
    subst (λ (s : Step). StepsFit (s ∷ Empty ∷ [])) (sym e) (All-append CanBeWritten (Tight (place + 1) var bound ∷ []) (Empty ∷ []) tight end_fits)

-- ---- rows one after another

pub row_is : (rows : List Inequality) (place : ℕ) (row : Inequality) → place < length rows → row ≡ get_or rows place row → row ≡ row_at rows place
row_is rows place row inside here = here ∙ get_or_default rows place row no_row inside

pub none_more : (rows : List Inequality) (bounds : Bounds) (first place : ℕ) (row : Inequality) → place < length rows → row ≡ get_or rows place row → is_violated bounds row ≡ false → ((k : ℕ) → first ≤ k → k < place → is_violated bounds (row_at rows k) ≡ false) → (k : ℕ) → first ≤ k → k < place + 1 → is_violated bounds (row_at rows k) ≡ false
none_more rows bounds first place row inside here fails before k low high =
    elim (cases_eq k place) [
      | inl same ↦ subst (λ (n : ℕ). is_violated bounds (row_at rows n) ≡ false) (sym same) (ap (is_violated bounds) (sym (row_is rows place row inside here)) ∙ fails)
      | inr apart ↦ before k low (omega (arith, high))
    ]

-- the same for a row that was read from the list
module _ (system : System) (bounds : Bounds) (rows : List Inequality) (first place : ℕ) (row : Inequality) (step : Step) (same : rows ≡ system.inequalities) (fits : RowsFit system bounds) (inside : place < length rows) (here : row ≡ get_or rows place row) (single : AreSingle first system.inequalities) (after : first ≤ place) (e : step ≡ Tight (place + 1) (var_of row) (tight_bound row bounds (var_of row))) where
  inside_all : place < length system.inequalities
  inside_all = subst (λ (rs : List Inequality). place < length rs) same inside

  is : row ≡ row_at system.inequalities place
  is = row_is system.inequalities place row inside_all (subst (λ (rs : List Inequality). row ≡ get_or rs place row) same here)

  one : length row.terms ≡ 1
  one = subst (λ (r : Inequality). length r.terms ≡ 1) (sym is) (single place after inside_all)

  pub closes_in : is_violated bounds (row_at rows place) ≡ true → IsRefutation system bounds (step ∷ Empty ∷ [])
  closes_in violated =
      let bad = ap (is_violated bounds) is ∙ (ap (λ (rs : List Inequality). is_violated bounds (row_at rs place)) (sym same) ∙ violated) in
      closes system bounds place row step fits inside_all is one bad e

  pub written_in : length system.inequalities < 2 ^ 32 → length bounds < 2 ^ 32 → StepsFit (step ∷ Empty ∷ [])
  written_in few vars = written system bounds place row step fits few vars inside_all is one e
