-- Values that satisfy a system are left by every sweep and every case, so they keep bounds from being closable.
use Rattle.std.proofs.Common.{◌≡◌, ◌≢◌, ℕ, suc, zero, ◌-◌, ◌<◌, Bool, true, false, cond, ◌&&◌, List, [], ◌∷◌, ◌++◌, length, reverse, fold, get_or, ℤ, pos, arith, refl, sym, inl, inr, All, subst, ap, ◌∙◌}
use Rattle.std.proofs.lemmas.Int.{ints}
use Rattle.std.proofs.lemmas.Bool.{ne_eqb, cases_Bool, and_left, and_right}
use Rattle.std.proofs.lemmas.List.{get_or-reverse, get_or_default, length-reverse}
use Rattle.std.proofs.lemmas.List.Elements.{All-head, All-tail, All-append}
use Rattle.std.proofs.lemmas.List.Folds.{list_any_none}
use Rattle.qf_base.specs.Values.{Bounds, Term, IsWithin}
use Rattle.qf_lin.specs.declared.inequality.Inequality.{Inequality}
use Rattle.qf_lin.specs.declared.inequality.System.{System}
use Rattle.qf_lin.specs.Inequalities.{Holds, AllHold, IsProper, IsWellFormed, factor_of, tight_bound, with_bound, is_empty, tightened, row_swept, swept}
use Rattle.qf_lin.specs.Steps.{case_zero, case_one, ends_empty, is_closable}
use Rattle.qf_lin.proofs.Sums.{factor_of-first}
use Rattle.qf_lin.proofs.Tightening.{tightening_keeps, tight_bound_given}
use Rattle.qf_lin.proofs.Soundness.{empty_holds_none, cases_cover}

-- ---- the factor of a variable of a proper row

IsProper-tail : (t : Term) (ts : List Term) → IsProper (t ∷ ts) → IsProper ts
IsProper-tail t ts p = (All-tail (λ (u : Term). u.0 ≢ pos 0) t ts p.0, λ i j d before within. p.1 (suc i) (suc j) d (omega arith) (omega arith))

factor_at : (terms : List Term) (i : ℕ) → IsProper terms → i < length terms → factor_of terms (get_or terms i (pos 0, 0)).1 ≡ (get_or terms i (pos 0, 0)).0
factor_at [] i p h = absurd (omega arith)
factor_at (t ∷ ts) zero p h = factor_of-first (t ∷ ts) t.1 0 p h refl
factor_at (t ∷ ts) (suc i) p h =
    let rest = factor_at ts i (IsProper-tail t ts p) (omega arith) in
    let apart : t.1 ≢ (get_or ts i (pos 0, 0)).1 = p.1 0 (suc i) (pos 0, 0) (omega arith) h in
    rw (ne_eqb t.1 (get_or ts i (pos 0, 0)).1 apart) (omega (arith, ints, rest))

abbrev HasFactor : List Term → Term → Type 0
HasFactor terms t = factor_of terms t.1 ≢ pos 0

have_factors : (terms : List Term) → IsProper terms → All (HasFactor terms) terms
have_factors terms p = λ i d h e.
    let same = get_or_default terms i (pos 0, 0) d h in
    p.0 i (pos 0, 0) h (sym (factor_at terms i p h) ∙ (ap (λ (t : Term). factor_of terms t.1) same ∙ e))

-- ---- sweeps

tightened_by : (flag : Bool) (row : Inequality) (values : List ℤ) (bounds : Bounds) (t : Term) → factor_of row.terms t.1 ≢ pos 0 → Holds row values → IsWithin values bounds → IsWithin values (cond flag bounds (with_bound bounds t.1 (tight_bound row bounds t.1)))
tightened_by true row values bounds t ne h w = w
tightened_by false row values bounds t ne h w =
    tightening_keeps row values bounds t.1 (tight_bound row bounds t.1) h w (tight_bound_given row bounds t.1 ne)

terms_keep : (row : Inequality) (values : List ℤ) (terms : List Term) → All (HasFactor row.terms) terms → Holds row values → (bounds : Bounds) → IsWithin values bounds → IsWithin values (fold (tightened row) bounds terms)
terms_keep row values [] all h bounds w = w
terms_keep row values (t ∷ ts) all h bounds w =
    terms_keep row values ts (All-tail (HasFactor row.terms) t ts all) h (tightened row bounds t) (tightened_by (is_empty bounds) row values bounds t (All-head (HasFactor row.terms) t ts all) h w)

abbrev pub IsKept : List ℤ → Inequality → Type 0
IsKept values row = IsProper row.terms × Holds row values

rows_keep : (values : List ℤ) (rows : List Inequality) → All (IsKept values) rows → (bounds : Bounds) → IsWithin values bounds → IsWithin values (fold row_swept bounds rows)
rows_keep values [] all bounds w = w
rows_keep values (row ∷ rows) all bounds w =
    let here = All-head (IsKept values) row rows all in
    rows_keep values rows (All-tail (IsKept values) row rows all) (row_swept bounds row) (terms_keep row values row.terms (have_factors row.terms here.0) here.1 bounds w)

All-reverse : {X : Type 0} (P : X → Type 0) (xs : List X) → All P xs → All P (reverse xs)
All-reverse P xs h = λ k d inside.
    let within : k < length xs = omega (arith, length-reverse xs) in
    subst P (sym (get_or-reverse xs k d within)) (h (length xs - 1 - k) d (omega arith))

-- a sweep loses no values that satisfy the inequalities
pub sweep_keeps : (values : List ℤ) (rows : List Inequality) (bounds : Bounds) → All (IsKept values) rows → IsWithin values bounds → IsWithin values (swept rows bounds)
sweep_keeps values rows bounds all w =
    rows_keep values (rows ++ reverse rows) (All-append (IsKept values) rows (reverse rows) all (All-reverse (IsKept values) rows all)) bounds w

not_empty : (values : List ℤ) (bounds : Bounds) → IsWithin values bounds → is_empty bounds ≡ false
not_empty values bounds w =
    elim (cases_Bool (is_empty bounds)) [
      | inl e ↦ absurd (empty_holds_none values bounds e w)
      | inr e ↦ e
    ]

four_keep : (values : List ℤ) (rows : List Inequality) (bounds : Bounds) → All (IsKept values) rows → IsWithin values bounds → ends_empty rows bounds ≡ false
four_keep values rows bounds all w =
    let one = sweep_keeps values rows bounds all w in
    let two = sweep_keeps values rows (swept rows bounds) all one in
    let three = sweep_keeps values rows (swept rows (swept rows bounds)) all two in
    not_empty values (swept rows (swept rows (swept rows (swept rows bounds)))) (sweep_keeps values rows (swept rows (swept rows (swept rows bounds))) all three)

case_stays_open : (values : List ℤ) (rows : List Inequality) (bounds : Bounds) (var : ℕ) → All (IsKept values) rows → IsWithin values bounds → (ends_empty rows (case_zero bounds var) && ends_empty rows (case_one bounds var)) ≡ false
case_stays_open values rows bounds var all w =
    elim (cases_cover values bounds var w) [
      | inl zero_holds ↦ and_left (ends_empty rows (case_zero bounds var)) (ends_empty rows (case_one bounds var)) (four_keep values rows (case_zero bounds var) all zero_holds)
      | inr one_holds ↦ and_right (ends_empty rows (case_zero bounds var)) (ends_empty rows (case_one bounds var)) (four_keep values rows (case_one bounds var) all one_holds)
    ]

pub solutions_keep_open : (system : System) (bounds : Bounds) (values : List ℤ) → IsWellFormed system → AllHold system.inequalities values → IsWithin values bounds → is_closable system bounds ≡ false
solutions_keep_open system bounds values formed all w =
    let kept : All (IsKept values) system.inequalities = λ i d h. (formed.proper i d h, all i d h) in
    let rows = system.inequalities in
    let none = list_any_none (λ (var : ℕ). ends_empty rows (case_zero bounds var) && ends_empty rows (case_one bounds var)) system.selectors (λ i d h. case_stays_open values rows bounds (get_or system.selectors i d) kept w) in
    rw (four_keep values rows bounds kept w) none
