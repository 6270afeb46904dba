-- Steps that lead from bounds to bounds, one after another.
use Rattle.std.specs.Prelude.{◌≡◌, ◌≢◌, ℕ, suc, zero, ◌-◌, ◌<◌, ◌≤◌, Bool, true, false, cond, ◌&&◌, ◌||◌, ◌==◌, int_lt, int_le, List, [], ◌∷◌, ◌++◌, length, slice_get, slice_set, slice_index_or, Some, None, ℤ, pos, ◌≤ℤ◌, ◌<ℤ◌}
use Rattle.std.proofs.Common.{arith, refl, sym, ap, ◌∙◌, subst, get_or}
use Rattle.std.proofs.lemmas.Int.{ints, clamps}
use Rattle.std.specs.Int.{int_max, int_min}
use Rattle.std.proofs.lemmas.Bool.{false≢true, or_parts}
use Rattle.std.proofs.lemmas.Bool.Decides.{nat_tests}
use Rattle.std.proofs.lemmas.List.{append-nil, set-get_or, length-set, get_or-set_same}
use Rattle.std.proofs.lemmas.Option.{get_or_from_slice_get}
use Rattle.qf_base.specs.declared.names.Bound.{Bound}
use Rattle.qf_base.specs.declared.names.Bound.TheVariants.{Low, High}
use Rattle.qf_base.specs.Values.{Interval, Bounds, interval_of_var}
use Rattle.qf_base.proofs.Integers.{int_lt_true, int_lt_false}
use Rattle.qf_lin.specs.declared.inequality.Inequality.{Inequality}
use Rattle.qf_lin.specs.declared.inequality.System.{System}
use Rattle.qf_lin.specs.declared.step.Step.{Step}
use Rattle.qf_lin.specs.declared.step.Step.TheVariants.{Tight, Empty, Case}
use Rattle.qf_lin.specs.Inequalities.{NamesVars, with_bound, taken, tight_bound, better_bound, bound_by, is_better, is_empty, factor_of, greatest_of_others}
use Rattle.qf_lin.specs.Steps.{LeadsTo, tight_step_is_right, suits_factor, is_weaker, row_gives, row_gives_at, is_number_of, numbered}
use Rattle.qf_lin.proofs.Sweeps.{with_bound-part, IsSmall-part}
use Rattle.qf_tree.specs.Steps.{RowFits}
use Rattle.qf_trail.specs.Trails.{Marked, end_put, with_end}
use Rattle.qf_prop.specs.Sweeps.{Fits, Leads, row_at, no_row, NamesFactor}

-- ---- one list of steps after another

pub LeadsTo-append : (system : System) (a b c : Bounds) (xs ys : List Step) → LeadsTo system a xs b → LeadsTo system b ys c → LeadsTo system a (xs ++ ys) c
LeadsTo-append system a b c [] ys h k = subst (λ (m : Bounds). LeadsTo system m ys c) h k
LeadsTo-append system a b c (Tight n var bound ∷ xs) ys h k = (h.0, LeadsTo-append system (with_bound a var bound) b c xs ys h.1 k)
LeadsTo-append system a b c (Empty ∷ xs) ys h k = absurd h
LeadsTo-append system a b c (Case var ∷ xs) ys h k = absurd h

append_after : (s t u xs ys : List Step) → t ≡ s ++ xs → u ≡ t ++ ys → u ≡ s ++ (xs ++ ys)
append_after s t u xs ys h k = rw (k, h) (append_thrice s xs ys)
  where
    append_thrice : (s xs ys : List Step) → (s ++ xs) ++ ys ≡ s ++ (xs ++ ys)
    append_thrice [] xs ys = refl
    append_thrice (x ∷ s) xs ys = ap (λ (zs : List Step). x ∷ zs) (append_thrice s xs ys)

pub leads_none : (system : System) (m : Marked) (s : List Step) → Leads system m s m s
leads_none system m s = ([], sym (append-nil s), refl, refl)

pub leads_then : (system : System) (a b c : Marked) (s t u : List Step) → Leads system a s b t → Leads system b t c u → Leads system a s c u
leads_then system a b c s t u h k = (
  h.0 ++ k.0,
  append_after s t u h.0 k.0 h.1 k.1,
  LeadsTo-append system a.bounds b.bounds c.bounds h.0 k.0 h.2 k.2,
  k.3 ∙ ap (λ (m : Marked). record m { bounds = c.bounds }) h.3,
)

-- ---- a right step

pub three_parts : (a b c : Bool) → (a && b && c) ≡ true → (a ≡ true) × (b ≡ true) × (c ≡ true)
three_parts true true true h = (refl, refl, refl)
three_parts true true false h = absurd (false≢true h)
three_parts true false c h = absurd (false≢true h)
three_parts false b c h = absurd (false≢true h)

pub number_exists : (n count : ℕ) → is_number_of n count ≡ true → (0 < n) × (n ≤ count)
number_exists n count h = grind (arith, nat_tests)

pub number_fits : (n count : ℕ) → 0 < n → n ≤ count → is_number_of n count ≡ true
number_fits n count h k = grind (arith, nat_tests)

pub numbered_at : (rows : List Inequality) (n : ℕ) → 0 < n → n ≤ length rows → numbered rows n ≡ Some (row_at rows n)
numbered_at rows n h k = rw (not_zero n h) (at_place rows (n - 1) (omega arith))
  where
    not_zero : (n : ℕ) → 0 < n → (0 == n) ≡ false
    not_zero n h = grind (arith, nat_tests)

    at_place : (rows : List Inequality) (n : ℕ) → n < length rows → slice_get rows n ≡ Some (slice_index_or rows n no_row)
    at_place [] n h = absurd (omega arith)
    at_place (x ∷ rows) zero h = refl
    at_place (x ∷ rows) (suc n) h = at_place rows n (omega arith)

is_weaker-itself : (bound : Bound) → is_weaker bound bound ≡ true
is_weaker-itself (Low n) = le_itself n
  where
    le_itself : (n : ℤ) → int_le n n ≡ true
    le_itself n = grind (arith, ints)
is_weaker-itself (High n) = le_itself n
  where
    le_itself : (n : ℤ) → int_le n n ≡ true
    le_itself n = grind (arith, ints)

above_zero : (factor : ℤ) → factor ≢ pos 0 → int_lt factor (pos 0) ≡ false → int_lt (pos 0) factor ≡ true
above_zero factor h k = grind (arith, ints)

suits_by : (flag : Bool) (factor rest least : ℤ) → int_lt factor (pos 0) ≡ flag → factor ≢ pos 0 → suits_factor factor (bound_by factor rest least) ≡ true
suits_by true factor rest least e h = rw e e
suits_by false factor rest least e h = rw e (above_zero factor h e)

pub row_gives-own : (row : Inequality) (bounds : Bounds) (var : ℕ) → factor_of row.terms var ≢ pos 0 → row_gives row bounds var (tight_bound row bounds var) ≡ true
row_gives-own row bounds var h =
    let suits = suits_by (int_lt (factor_of row.terms var) (pos 0)) (factor_of row.terms var) (greatest_of_others row.terms bounds var) row.least refl h in
    rw (suits, is_weaker-itself (tight_bound row bounds var)) refl

pub three_true : (a b c : Bool) → a ≡ true → b ≡ true → c ≡ true → (a && b && c) ≡ true
three_true a b c h k l = rw (h, k, l) refl

pub step_is_right : (system : System) (bounds : Bounds) (n var : ℕ) → is_empty bounds ≡ false → 0 < n → n ≤ length system.inequalities → NamesFactor (row_at system.inequalities n) var (length bounds) → tight_step_is_right system bounds n var (tight_bound (row_at system.inequalities n) bounds var) ≡ true
step_is_right system bounds n var nonempty first last in_row =
    let row = row_at system.inequalities n in
    let gives : row_gives_at (numbered system.inequalities n) bounds var (tight_bound row bounds var) ≡ true =
    rw (numbered_at system.inequalities n first last) (row_gives-own row bounds var in_row.2) in
    three_true (cond (is_empty bounds) false true) (is_number_of var (length bounds)) (row_gives_at (numbered system.inequalities n) bounds var (tight_bound row bounds var))
    (ap (λ (b : Bool). cond b false true) nonempty) (number_fits var (length bounds) in_row.0 in_row.1) gives

-- ---- what fits the bounds before fits those after

pub fits_step : (system : System) (bounds : Bounds) (var : ℕ) (bound : Bound) → is_empty bounds ≡ false → 0 < var → var ≤ length bounds → Fits system bounds → Fits system (with_bound bounds var bound)
fits_step system bounds var bound nonempty first last fits =
    let long : length (with_bound bounds var bound) ≡ length bounds = length-set bounds (var - 1) (taken bound (interval_of_var bounds var)) in
    record {
      vars = long ∙ fits.vars;
      formed = fits.formed;
      usable = λ still. record {
        rows = λ k d within.
            let row = get_or system.inequalities k d in
            let before : RowFits bounds row = (fits.usable nonempty).rows k d within in
            record {
              small = IsSmall-part row bounds (with_bound bounds var bound) (with_bound-part bounds var bound (omega arith) still) before.small;
              named = subst (λ n. NamesVars row.terms n) (sym long) before.named;
              proper = before.proper;
            };
        not_empty = still;
      };
    }

open_of : (b : Bool) → cond b false true ≡ true → b ≡ false
open_of true h = absurd (false≢true h)
open_of false h = refl

pub fits_after : (system : System) (steps : List Step) (a b : Bounds) → LeadsTo system a steps b → Fits system a → Fits system b
fits_after system [] a b h fits = subst (Fits system) (sym h) fits
fits_after system (Tight n var bound ∷ steps) a b h fits =
    let parts = three_parts (cond (is_empty a) false true) (is_number_of var (length a)) (row_gives_at (numbered system.inequalities n) a var bound) h.0 in
    let exists = number_exists var (length a) parts.1 in
    fits_after system steps (with_bound a var bound) b h.1 (fits_step system a var bound (open_of (is_empty a) parts.0) exists.0 exists.1 fits)
fits_after system (Empty ∷ steps) a b h fits = absurd h
fits_after system (Case var ∷ steps) a b h fits = absurd h

-- ---- one bound taken

taken-better : (bound : Bound) (i : Interval) → is_better bound i ≡ true → end_put bound i ≡ taken bound i
taken-better (Low n) i h = let e : n ≡ _ = greater i.0 n (int_lt_true i.0 n h) in ap (λ (z : ℤ). (z, i.1)) e
  where
    greater : (low n : ℤ) → low <ℤ n → n ≡ int_max low n
    greater low n h = grind (arith, ints, clamps)
taken-better (High n) i h = let e : n ≡ _ = lesser i.1 n (int_lt_true n i.1 h) in ap (λ (z : ℤ). (i.0, z)) e
  where
    lesser : (high n : ℤ) → n <ℤ high → n ≡ int_min high n
    lesser high n h = grind (arith, ints, clamps)

taken-no_better : (bound : Bound) (i : Interval) → is_better bound i ≡ false → taken bound i ≡ i
taken-no_better (Low n) i h = ap (λ (z : ℤ). (z, i.1)) (stays i.0 n (int_lt_false i.0 n h))
  where
    stays : (low n : ℤ) → n ≤ℤ low → int_max low n ≡ low
    stays low n h = grind (arith, ints, clamps)
taken-no_better (High n) i h = ap (λ (z : ℤ). (i.0, z)) (stays i.1 n (int_lt_false n i.1 h))
  where
    stays : (high n : ℤ) → high ≤ℤ n → int_min high n ≡ high
    stays high n h = grind (arith, ints, clamps)

pub with_end-better : (bounds : Bounds) (var : ℕ) (bound : Bound) → is_better bound (interval_of_var bounds var) ≡ true → with_end bounds var bound ≡ with_bound bounds var bound
with_end-better bounds var bound h = ap (λ (i : Interval). slice_set bounds (var - 1) i) (taken-better bound (interval_of_var bounds var) h)

pub with_bound-no_better : (bounds : Bounds) (var : ℕ) (bound : Bound) → is_better bound (interval_of_var bounds var) ≡ false → with_bound bounds var bound ≡ bounds
with_bound-no_better bounds var bound h =
    ap (λ (i : Interval). slice_set bounds (var - 1) i) (taken-no_better bound (interval_of_var bounds var) h) ∙ set-get_or bounds (var - 1) (pos 0, pos 0)

-- ---- whether a change empties the bounds

or_right : (a b : Bool) → b ≡ false → (a || b) ≡ a
or_right true b h = refl
or_right false b h = h

or_left : (a b : Bool) → a ≡ false → (a || b) ≡ b
or_left a b h = rw h refl

pub is_empty-set : (bounds : Bounds) (place : ℕ) (i : Interval) → place < length bounds → is_empty bounds ≡ false → is_empty (slice_set bounds place i) ≡ int_lt i.1 i.0
is_empty-set [] place i h e = absurd (omega arith)
is_empty-set (x ∷ bounds) zero i h e = or_right (int_lt i.1 i.0) (is_empty bounds) (or_parts (int_lt x.1 x.0) (is_empty bounds) e).1
is_empty-set (x ∷ bounds) (suc place) i h e =
    let parts = or_parts (int_lt x.1 x.0) (is_empty bounds) e in
    or_left (int_lt x.1 x.0) (is_empty (slice_set bounds place i)) parts.0 ∙ is_empty-set bounds place i (omega arith) parts.1

pub is_empty-taken : (bounds : Bounds) (var : ℕ) (bound : Bound) (r : Interval) → 0 < var → var ≤ length bounds → is_empty bounds ≡ false → slice_get (with_bound bounds var bound) (var - 1) ≡ Some r → is_empty (with_bound bounds var bound) ≡ int_lt r.1 r.0
is_empty-taken bounds var bound r first last nonempty at =
    let i = taken bound (interval_of_var bounds var) in
    let within : var - 1 < length bounds = omega arith in
    let same : r ≡ i = sym (get_or_from_slice_get (with_bound bounds var bound) (var - 1) r (pos 0, pos 0) at) ∙ get_or-set_same bounds (var - 1) i (pos 0, pos 0) within in
    is_empty-set bounds (var - 1) i within nonempty ∙ ap (λ (j : Interval). int_lt j.1 j.0) (sym same)

-- ---- one step

pub no_better_none : (b : Bool) (x : Bound) → None ≡ cond b (Some x) None → b ≡ false
no_better_none true x e = cc
no_better_none false x e = refl

pub better_some : (b : Bool) (x y : Bound) → Some y ≡ cond b (Some x) None → (b ≡ true) × (y ≡ x)
better_some true x y e = (refl, cc)
better_some false x y e = cc

-- the row's bound, where it is better, is one step
pub leads_one : (system : System) (old new : Marked) (s t : List Step) (n var : ℕ) (bound : Bound) → is_empty old.bounds ≡ false → 0 < n → n ≤ length system.inequalities → NamesFactor (row_at system.inequalities n) var (length old.bounds) → Some bound ≡ better_bound (row_at system.inequalities n) old.bounds var → t ≡ s ++ Tight n var bound ∷ [] → new ≡ record old { bounds = with_end old.bounds var bound } → Leads system old s new t × (new.bounds ≡ with_bound old.bounds var (tight_bound (row_at system.inequalities n) old.bounds var))
leads_one system old new s t n var bound nonempty first last in_row is added put =
    let row = row_at system.inequalities n in
    let tb = tight_bound row old.bounds var in
    let both = better_some (is_better tb (interval_of_var old.bounds var)) tb bound is in
    let better : is_better bound (interval_of_var old.bounds var) ≡ true = ap (λ (b : Bound). is_better b (interval_of_var old.bounds var)) both.1 ∙ both.0 in
    let bounds : new.bounds ≡ with_bound old.bounds var bound = ap (λ (m : Marked). m.bounds) put ∙ with_end-better old.bounds var bound better in
    let right : tight_step_is_right system old.bounds n var bound ≡ true = ap (tight_step_is_right system old.bounds n var) both.1 ∙ step_is_right system old.bounds n var nonempty first last in_row in
    let marked : new ≡ record old { bounds = new.bounds } = put ∙ ap (λ (b : Bounds). record old { bounds = b }) (ap (λ (m : Marked). m.bounds) (sym put)) in
    ((Tight n var bound ∷ [], added, (right, bounds), marked), bounds ∙ ap (with_bound old.bounds var) both.1)

-- and otherwise the bounds stay
pub stays_none : (row : Inequality) (bounds : Bounds) (var : ℕ) → None ≡ better_bound row bounds var → bounds ≡ with_bound bounds var (tight_bound row bounds var)
stays_none row bounds var is =
    sym (with_bound-no_better bounds var (tight_bound row bounds var) (no_better_none (is_better (tight_bound row bounds var) (interval_of_var bounds var)) (tight_bound row bounds var) is))
