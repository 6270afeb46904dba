-- The inequalities of a circuit name each variable once, with a factor that is not 0.
use Rattle.std.proofs.Common.{◌≡◌, ◌≢◌, ℕ, suc, zero, ◌+◌, ◌*◌, ◌<◌, ◌≤◌, ◌^◌, Bool, true, false, cond, not, ◌==◌, List, [], ◌∷◌, ◌++◌, length, fold, filter, map, get_or, ℤ, pos, ◌+ℤ◌, ◌-ℤ◌, neg_ℤ, All as AllOf, AllPairs, arith, refl, sym, ◌∙◌, length-append}
use Rattle.std.specs.List.{AllByRecursion}
use Rattle.std.specs.Ordering.{int_eq}
use Rattle.std.specs.Int.{int_min}
use Rattle.std.proofs.lemmas.Bool.{false≢true}
use Rattle.std.proofs.lemmas.List.{length-map}
use Rattle.std.proofs.lemmas.List.Elements.{All-from_recursion, filter_passes}
use Rattle.qf_base.specs.Values.{Bounds, Term, interval_of_var}
use Rattle.qf_lin.specs.declared.inequality.Inequality.{Inequality}
use Rattle.qf_lin.specs.Inequalities.{NamesVars, IsProper, IsWellFormed}
use Rattle.qf_circuit.specs.declared.circuit.Def.{Def}
use Rattle.qf_circuit.specs.declared.circuit.Def.TheVariants.{Param, Const, Linear, AtLeastZero, All, Any, Not, Choose}
use Rattle.qf_circuit.specs.Circuits.{named, NamesEarlier, def_size, circuit_size}
use Rattle.qf_rows.specs.Encoding.{with_term, merged, inequality, plus, minus, negated, below_rows, above_rows, rows_of_def, rows_from, rows_of, is_selector, selectors_from, selectors_of, circuit_system}
use Rattle.qf_rows.specs.Sums.{has_factor}

-- ---- added up, the variables differ

abbrev Lacks : ℕ → List Term → Type 0
Lacks var terms = AllByRecursion (λ u. var ≡ u.1 → ⊥) terms

abbrev Differ : List Term → Type 0
Differ [] = Unit {0}
Differ (t ∷ ts) = Lacks t.1 ts × Differ ts

lacks_by : (flag : Bool) (var : ℕ) (u t : Term) (us : List Term) → (var ≡ u.1 → ⊥) → Lacks var us → Lacks var (with_term us t) → Lacks var (cond flag ((u.0 +ℤ t.0, u.1) ∷ us) (u ∷ with_term us t))
lacks_by true var u t us p q h = (p, q)
lacks_by false var u t us p q h = (p, h)

lacks_with : (var : ℕ) (us : List Term) (t : Term) → Lacks var us → (var ≡ t.1 → ⊥) → Lacks var (with_term us t)
lacks_with var [] t h p = (p, tt)
lacks_with var (u ∷ us) t h p = lacks_by (u.1 == t.1) var u t us h.0 h.1 (lacks_with var us t h.1 p)

test_apart : (a b : ℕ) → (a == b) ≡ false → a ≡ b → ⊥
test_apart a b e same = absurd (false≢true (sym e ∙ rw same (itself b)))
  where
    itself : (b : ℕ) → (b == b) ≡ true
    itself b = grind arith

differ_by : (flag : Bool) (u t : Term) (us : List Term) → (u.1 == t.1) ≡ flag → Lacks u.1 us → Differ us → Differ (with_term us t) → Differ (cond flag ((u.0 +ℤ t.0, u.1) ∷ us) (u ∷ with_term us t))
differ_by true u t us e l d h = (l, d)
differ_by false u t us e l d h = (lacks_with u.1 us t l (test_apart u.1 t.1 e), h)

differ_with : (us : List Term) (t : Term) → Differ us → Differ (with_term us t)
differ_with [] t h = (tt, tt)
differ_with (u ∷ us) t h = differ_by (u.1 == t.1) u t us refl h.0 h.1 (differ_with us t h.1)

differ_fold : (done ts : List Term) → Differ done → Differ (fold with_term done ts)
differ_fold done [] h = h
differ_fold done (t ∷ ts) h = differ_fold (with_term done t) ts (differ_with done t h)

lacks_kept_by : (flag : Bool) (var : ℕ) (t : Term) (ts : List Term) → (var ≡ t.1 → ⊥) → Lacks var (filter has_factor ts) → Lacks var (cond flag (t ∷ filter has_factor ts) (filter has_factor ts))
lacks_kept_by true var t ts p h = (p, h)
lacks_kept_by false var t ts p h = h

lacks_kept : (var : ℕ) (ts : List Term) → Lacks var ts → Lacks var (filter has_factor ts)
lacks_kept var [] h = tt
lacks_kept var (t ∷ ts) h = lacks_kept_by (has_factor t) var t ts h.0 (lacks_kept var ts h.1)

differ_kept_by : (flag : Bool) (t : Term) (ts : List Term) → Lacks t.1 (filter has_factor ts) → Differ (filter has_factor ts) → Differ (cond flag (t ∷ filter has_factor ts) (filter has_factor ts))
differ_kept_by true t ts l h = (l, h)
differ_kept_by false t ts l h = h

differ_kept : (ts : List Term) → Differ ts → Differ (filter has_factor ts)
differ_kept [] h = tt
differ_kept (t ∷ ts) h = differ_kept_by (has_factor t) t ts (lacks_kept t.1 ts h.0) (differ_kept ts h.1)

pairs_from : (ts : List Term) → Differ ts → AllPairs (λ (t u : Term). t.1 ≢ u.1) ts
pairs_from [] h i j d below inside = absurd (omega (arith, inside))
pairs_from (t ∷ ts) h zero zero d below inside = absurd (omega (arith, below))
pairs_from (t ∷ ts) h zero (suc j) d below inside = All-from_recursion (λ (u : Term). t.1 ≡ u.1 → ⊥) ts h.0 j d (omega (arith, inside))
pairs_from (t ∷ ts) h (suc i) zero d below inside = absurd (omega (arith, below))
pairs_from (t ∷ ts) h (suc i) (suc j) d below inside = pairs_from ts h.1 i j d (omega (arith, below)) (omega (arith, inside))

factor_kept : (z : ℤ) → not (int_eq z (pos 0)) ≡ true → z ≡ pos 0 → ⊥
factor_kept z e zero_is = absurd (false≢true (rw zero_is at e))

pub merged-proper : (terms : List Term) → IsProper (merged terms)
merged-proper terms = (
  λ k d inside. factor_kept (get_or (merged terms) k d).0 (filter_passes has_factor (fold with_term [] terms) k d inside),
  pairs_from (merged terms) (differ_kept (fold with_term [] terms) (differ_fold [] terms tt)),
)

-- ---- .. and exist

abbrev InRange : ℕ → ℕ → Type 0
InRange vars var = (0 < var) × (var ≤ vars)

abbrev Name : ℕ → List Term → Type 0
Name vars terms = AllByRecursion (λ t. (0 < t.1) × (t.1 ≤ vars)) terms

name_by : (flag : Bool) (vars : ℕ) (u t : Term) (us : List Term) → InRange vars u.1 → Name vars us → Name vars (with_term us t) → Name vars (cond flag ((u.0 +ℤ t.0, u.1) ∷ us) (u ∷ with_term us t))
name_by true vars u t us p q h = (p, q)
name_by false vars u t us p q h = (p, h)

name_with : (vars : ℕ) (us : List Term) (t : Term) → Name vars us → InRange vars t.1 → Name vars (with_term us t)
name_with vars [] t h p = (p, tt)
name_with vars (u ∷ us) t h p = name_by (u.1 == t.1) vars u t us h.0 h.1 (name_with vars us t h.1 p)

name_fold : (vars : ℕ) (done ts : List Term) → Name vars done → Name vars ts → Name vars (fold with_term done ts)
name_fold vars done [] h k = h
name_fold vars done (t ∷ ts) h k = name_fold vars (with_term done t) ts (name_with vars done t h k.0) k.1

name_kept_by : (flag : Bool) (vars : ℕ) (t : Term) (ts : List Term) → InRange vars t.1 → Name vars (filter has_factor ts) → Name vars (cond flag (t ∷ filter has_factor ts) (filter has_factor ts))
name_kept_by true vars t ts p h = (p, h)
name_kept_by false vars t ts p h = h

name_kept : (vars : ℕ) (ts : List Term) → Name vars ts → Name vars (filter has_factor ts)
name_kept vars [] h = tt
name_kept vars (t ∷ ts) h = name_kept_by (has_factor t) vars t ts h.0 (name_kept vars ts h.1)

merged-named : (vars : ℕ) (terms : List Term) → Name vars terms → NamesVars (merged terms) vars
merged-named vars terms h =
    All-from_recursion (λ (t : Term). (0 < t.1) × (t.1 ≤ vars)) (merged terms) (name_kept vars (fold with_term [] terms) (name_fold vars [] terms tt h))

-- ---- the inequalities of a definition

abbrev pub IsGood : ℕ → Inequality → Type 0
IsGood vars row = NamesVars row.terms vars × IsProper row.terms

abbrev pub AreGood : ℕ → List Inequality → Type 0
AreGood vars rows = AllByRecursion (IsGood vars) rows

pub good_row : (vars : ℕ) (terms : List Term) (least : ℤ) → Name vars terms → IsGood vars (inequality terms least)
good_row vars terms least h = (merged-named vars terms h, merged-proper terms)

pub good_append : (vars : ℕ) (rows more : List Inequality) → AreGood vars rows → AreGood vars more → AreGood vars (rows ++ more)
good_append vars [] more h k = k
good_append vars (row ∷ rows) more h k = (h.0, good_append vars rows more h.1 k)

abbrev PartsIn : ℕ → List ℕ → Type 0
PartsIn vars xs = AllByRecursion (λ x. (0 < x) × (x ≤ vars)) xs

name_append : (vars : ℕ) (ts us : List Term) → Name vars ts → Name vars us → Name vars (ts ++ us)
name_append vars [] us h k = k
name_append vars (t ∷ ts) us h k = (h.0, name_append vars ts us h.1 k)

name_terms : (vars : ℕ) (ts : List Term) → PartsIn vars (map (λ t. t.1) ts) → Name vars ts
name_terms vars [] h = tt
name_terms vars (t ∷ ts) h = (h.0, name_terms vars ts h.1)

name_opposite : (vars : ℕ) (ts : List Term) → Name vars ts → Name vars (map negated ts)
name_opposite vars [] h = tt
name_opposite vars (t ∷ ts) h = (h.0, name_opposite vars ts h.1)

name_each : (vars : ℕ) (factor : ℤ) (xs : List ℕ) → PartsIn vars xs → Name vars (map (λ x. (factor, x)) xs)
name_each vars factor [] h = tt
name_each vars factor (x ∷ xs) h = (h.0, name_each vars factor xs h.1)

good_below : (vars s : ℕ) (xs : List ℕ) → InRange vars s → PartsIn vars xs → AreGood vars (below_rows xs s)
good_below vars s [] o h = tt
good_below vars s (x ∷ xs) o h = (good_row vars (plus x ∷ minus s ∷ []) (pos 0) (h.0, (o, tt)), good_below vars s xs o h.1)

good_above : (vars s : ℕ) (xs : List ℕ) → InRange vars s → PartsIn vars xs → AreGood vars (above_rows xs s)
good_above vars s [] o h = tt
good_above vars s (x ∷ xs) o h = (good_row vars (plus s ∷ minus x ∷ []) (pos 0) (o, (h.0, tt)), good_above vars s xs o h.1)

good_of_def : (vars : ℕ) (hull : Bounds) (v : ℕ) (def : Def) → InRange vars v → PartsIn vars (named def) → AreGood vars (rows_of_def hull v def)
good_of_def vars hull v (Param k) o h = tt
good_of_def vars hull v (Const n) o h = tt
good_of_def vars hull v (Linear terms n) o h =
    let names = name_terms vars terms h in
    (good_row vars (terms ++ minus v ∷ []) (neg_ℤ n) (name_append vars terms (minus v ∷ []) names (o, tt)), (good_row vars (map negated terms ++ plus v ∷ []) n (name_append vars (map negated terms) (plus v ∷ []) (name_opposite vars terms names) (o, tt)), tt))
good_of_def vars hull v (AtLeastZero u) o h =
    let i = interval_of_var hull u in
    (good_row vars (plus u ∷ (i.0, v) ∷ []) i.0 (h.0, (o, tt)), (good_row vars (minus u ∷ (i.1 +ℤ pos 1, v) ∷ []) (pos 1) (h.0, (o, tt)), tt))
good_of_def vars hull v (All xs) o h =
    good_append vars (below_rows xs v) (inequality (plus v ∷ map minus xs) (pos 1 -ℤ pos (length xs)) ∷ []) (good_below vars v xs o h) (good_row vars (plus v ∷ map minus xs) (pos 1 -ℤ pos (length xs)) (o, name_each vars (neg_ℤ (pos 1)) xs h), tt)
good_of_def vars hull v (Any xs) o h =
    good_append vars (above_rows xs v) (inequality (map plus xs ++ minus v ∷ []) (pos 0) ∷ []) (good_above vars v xs o h) (good_row vars (map plus xs ++ minus v ∷ []) (pos 0) (name_append vars (map plus xs) (minus v ∷ []) (name_each vars (pos 1) xs h) (o, tt)), tt)
good_of_def vars hull v (Not x) o h =
    (good_row vars (plus v ∷ plus x ∷ []) (pos 1) (o, (h.0, tt)), (good_row vars (minus v ∷ minus x ∷ []) (neg_ℤ (pos 1)) (o, (h.0, tt)), tt))
good_of_def vars hull v (Choose x a b) o h =
    let hv = interval_of_var hull v in
    let ha = interval_of_var hull a in
    let hb = interval_of_var hull b in
    let m1 = int_min (pos 0) (hv.0 -ℤ ha.1) in
    let m2 = int_min (pos 0) (ha.0 -ℤ hv.1) in
    let m3 = int_min (pos 0) (hv.0 -ℤ hb.1) in
    let m4 = int_min (pos 0) (hb.0 -ℤ hv.1) in (
      good_row vars (plus v ∷ minus a ∷ (m1, x) ∷ []) m1 (o, (h.1.0, (h.0, tt))),
      (
        good_row vars (plus a ∷ minus v ∷ (m2, x) ∷ []) m2 (h.1.0, (o, (h.0, tt))),
        (
          good_row vars (plus v ∷ minus b ∷ (neg_ℤ m3, x) ∷ []) (pos 0) (o, (h.1.1.0, (h.0, tt))),
          (good_row vars (plus b ∷ minus v ∷ (neg_ℤ m4, x) ∷ []) (pos 0) (h.1.1.0, (o, (h.0, tt))), tt),
        ),
      ),
    )

-- ---- of all definitions

good_from : (vars : ℕ) (hull : Bounds) (v : ℕ) (ds : List Def) → 0 < v → v + length ds ≤ vars + 1 → ((place : ℕ) → place < length ds → PartsIn vars (named (get_or ds place (Const (pos 0))))) → AreGood vars (rows_from hull v ds)
good_from vars hull v [] p l h = tt
good_from vars hull v (d ∷ ds) p l h =
    good_append vars (rows_of_def hull v d) (rows_from hull (v + 1) ds) (good_of_def vars hull v d (p, omega (arith, l)) (h 0 (omega arith))) (good_from vars hull (v + 1) ds (omega arith) (omega (arith, l)) (λ place inside. h (suc place) (omega (arith, inside))))

parts_more : (n vars : ℕ) (xs : List ℕ) → n ≤ vars → PartsIn n xs → PartsIn vars xs
parts_more n vars [] le h = tt
parts_more n vars (x ∷ xs) le h = ((h.0.0, omega (arith, h.0.1, le)), parts_more n vars xs le h.1)

-- ---- how many

rows_count : (hull : Bounds) (v : ℕ) (def : Def) → length (rows_of_def hull v def) ≤ 4 * def_size def
rows_count hull v (Param k) = omega arith
rows_count hull v (Const n) = omega arith
rows_count hull v (Linear terms n) = omega arith
rows_count hull v (AtLeastZero u) = omega arith
rows_count hull v (All xs) = omega (arith, length-append (below_rows xs v) (inequality (plus v ∷ map minus xs) (pos 1 -ℤ pos (length xs)) ∷ []), length-map xs (λ x. inequality (plus x ∷ minus v ∷ []) (pos 0)))
rows_count hull v (Any xs) = omega (arith, length-append (above_rows xs v) (inequality (map plus xs ++ minus v ∷ []) (pos 0) ∷ []), length-map xs (λ x. inequality (plus v ∷ minus x ∷ []) (pos 0)))
rows_count hull v (Not x) = omega arith
rows_count hull v (Choose x a b) = omega arith

all_rows_count : (hull : Bounds) (v : ℕ) (ds : List Def) → length (rows_from hull v ds) ≤ 4 * circuit_size ds
all_rows_count hull v [] = omega arith
all_rows_count hull v (d ∷ ds) = omega (arith, length-append (rows_of_def hull v d) (rows_from hull (v + 1) ds), rows_count hull v d, all_rows_count hull (v + 1) ds)

pub def_size_le : (defs : List Def) (i : ℕ) (d : Def) → i < length defs → def_size (get_or defs i d) ≤ circuit_size defs
def_size_le [] i d inside = absurd (omega (arith, inside))
def_size_le (x ∷ xs) zero d inside = omega arith
def_size_le (x ∷ xs) (suc i) d inside = omega (arith, def_size_le xs i d (omega (arith, inside)))

-- ---- selectors

selectors_by : (flag : Bool) (vars v : ℕ) (rest : List ℕ) → InRange vars v → PartsIn vars rest → PartsIn vars (cond flag (v ∷ rest) rest)
selectors_by true vars v rest o h = (o, h)
selectors_by false vars v rest o h = h

selectors_in : (vars v : ℕ) (ds : List Def) → 0 < v → v + length ds ≤ vars + 1 → PartsIn vars (selectors_from v ds)
selectors_in vars v [] p l = tt
selectors_in vars v (d ∷ ds) p l = selectors_by (is_selector d) vars v (selectors_from (v + 1) ds) (p, omega (arith, l)) (selectors_in vars (v + 1) ds (omega arith) (omega (arith, l)))

-- ---- the system

pub good_rows : (hull : Bounds) (defs : List Def) → NamesEarlier defs → AreGood (length defs) (rows_of hull defs)
good_rows hull defs names = good_from (length defs) hull 1 defs (omega arith) (omega arith) (λ place inside. parts_more place (length defs) (named (get_or defs place (Const (pos 0)))) (omega (arith, inside)) (names place inside))

pub good_named : (vars : ℕ) (rows : List Inequality) → AreGood vars rows → AllOf (λ (row : Inequality). NamesVars row.terms vars) rows
good_named vars rows h = All-from_recursion (λ (row : Inequality). NamesVars row.terms vars) rows (firsts rows h)
  where
    firsts : (rows : List Inequality) → AreGood vars rows → AllByRecursion (λ (row : Inequality). NamesVars row.terms vars) rows
    firsts [] h = tt
    firsts (row ∷ rows) h = (h.0.0, firsts rows h.1)

pub good_proper : (vars : ℕ) (rows : List Inequality) → AreGood vars rows → AllOf (λ (row : Inequality). IsProper row.terms) rows
good_proper vars rows h = All-from_recursion (λ (row : Inequality). IsProper row.terms) rows (seconds rows h)
  where
    seconds : (rows : List Inequality) → AreGood vars rows → AllByRecursion (λ (row : Inequality). IsProper row.terms) rows
    seconds [] h = tt
    seconds (row ∷ rows) h = (h.0.1, seconds rows h.1)

pub rows_few : (hull : Bounds) (defs : List Def) → circuit_size defs < 2 ^ 29 → length (rows_of hull defs) < 2 ^ 31
rows_few hull defs few = omega (arith, few, all_rows_count hull 1 defs)

pub selectors_exist : (defs : List Def) → AllOf (λ (var : ℕ). (0 < var) × (var ≤ length defs)) (selectors_of defs)
selectors_exist defs = All-from_recursion (λ (var : ℕ). (0 < var) × (var ≤ length defs)) (selectors_of defs) (selectors_in (length defs) 1 defs (omega arith) (omega arith))

pub well_formed : (hull : Bounds) (defs : List Def) → NamesEarlier defs → circuit_size defs < 2 ^ 29 → IsWellFormed (circuit_system hull defs)
well_formed hull defs names few =
    let good = good_rows hull defs names in
    record {
      few = omega (arith, rows_few hull defs few);
      named = good_named (length defs) (rows_of hull defs) good;
      proper = good_proper (length defs) (rows_of hull defs) good;
      selectors = selectors_exist defs;
    }
