-- Factors added up in a map from variables.
use Rattle.std.proofs.Common.{◌≡◌, ℕ, ◌+◌, ◌<◌, ◌≤◌, ◌*◌, ◌^◌, Bool, true, false, cond, ◌==◌, nat_eq, List, [], ◌∷◌, ◌++◌, append_assoc, length, fold, filter, drop, get_or, Some, unwrap_or, ℤ, pos, ◌+ℤ◌, unsigned_abs, All, arith, refl, add-one, drop-cons}
use Rattle.std.specs.List.{AllByRecursion}
use Rattle.std.specs.Map.{lookup}
use Rattle.std.specs.Ordering.{int_eq}
use Rattle.std.proofs.lemmas.Int.{ints}
use Rattle.std.proofs.lemmas.List.Elements.{All-from_recursion, recursion_from_All, All-get_or}
use Rattle.indexmap.specs.IndexMap.{insert_entry}
use Rattle.qf_base.specs.Values.{Term}
use Rattle.qf_rows.specs.Encoding.{with_term}
use Rattle.qf_rows.specs.Sums.{Entry, terms_of, term_of, factor_at, has_factor}

-- ---- one factor

insert_by : (flag : Bool) (e : Entry) (es : List Entry) (var : ℕ) (factor : ℤ) → terms_of (insert_entry nat_eq es var (factor_at es var +ℤ factor)) ≡ with_term (terms_of es) (factor, var) → terms_of (cond flag ((e.0, unwrap_or (cond flag (Some e.1) (lookup (nat_eq var) es)) (pos 0) +ℤ factor) ∷ es) (e ∷ insert_entry nat_eq es var (unwrap_or (cond flag (Some e.1) (lookup (nat_eq var) es)) (pos 0) +ℤ factor))) ≡ cond flag ((e.1 +ℤ factor, e.0) ∷ terms_of es) (term_of e ∷ with_term (terms_of es) (factor, var))
insert_by true e es var factor h = refl
insert_by false e es var factor h = rw h refl

same_test : (a b : ℕ) → (a == b) ≡ nat_eq b a
same_test a b = grind arith

insert-with_term : (es : List Entry) (var : ℕ) (factor : ℤ) → terms_of (insert_entry nat_eq es var (factor_at es var +ℤ factor)) ≡ with_term (terms_of es) (factor, var)
insert-with_term [] var factor = let e : pos 0 +ℤ factor ≡ factor = omega (arith, ints) in rw e refl
insert-with_term (e ∷ es) var factor =
    let test = same_test e.0 var in
    rw test (insert_by (nat_eq var e.0) e es var factor (insert-with_term es var factor))

pub inserted-with_term : (old new : List Entry) (t : Term) (so_far factor : ℤ) → so_far ≡ factor_at old t.1 → factor ≡ so_far +ℤ t.0 → new ≡ insert_entry nat_eq old t.1 factor → terms_of new ≡ with_term (terms_of old) t
inserted-with_term old new t so_far factor s f n = rw (n, f, s) (insert-with_term old t.1 t.0)

-- ---- sizes

abbrev pub AreWithin : ℕ → List Term → Type 0
AreWithin m terms = AllByRecursion (λ t. unsigned_abs t.0 ≤ m) terms

pub within_more : (m n : ℕ) (terms : List Term) → m ≤ n → AreWithin m terms → AreWithin n terms
within_more m n [] le h = tt
within_more m n (t ∷ ts) le h = (omega (arith, h.0), within_more m n ts le h.1)

factor_by : (flag : Bool) (m : ℕ) (e : Entry) (es : List Entry) (var : ℕ) → unsigned_abs e.1 ≤ m → unsigned_abs (factor_at es var) ≤ m → unsigned_abs (unwrap_or (cond flag (Some e.1) (lookup (nat_eq var) es)) (pos 0)) ≤ m
factor_by true m e es var p q = p
factor_by false m e es var p q = q

factor_within : (m : ℕ) (es : List Entry) (var : ℕ) → AreWithin m (terms_of es) → unsigned_abs (factor_at es var) ≤ m
factor_within m [] var h = omega (arith, ints)
factor_within m (e ∷ es) var h = factor_by (nat_eq var e.0) m e es var h.0 (factor_within m es var h.1)

pub factor_small : (m : ℕ) (es : List Entry) (var : ℕ) (factor : ℤ) → factor ≡ factor_at es var → All (λ u. unsigned_abs u.0 ≤ m) (terms_of es) → unsigned_abs factor ≤ m
factor_small m es var factor e h = rw e (factor_within m es var (recursion_from_All (λ (u : Term). unsigned_abs u.0 ≤ m) (terms_of es) h))

with_term_by : (flag : Bool) (m k : ℕ) (u t : Term) (us : List Term) → unsigned_abs u.0 ≤ m → unsigned_abs t.0 ≤ k → AreWithin m us → AreWithin (m + k) (with_term us t) → AreWithin (m + k) (cond flag ((u.0 +ℤ t.0, u.1) ∷ us) (u ∷ with_term us t))
with_term_by true m k u t us p q r h = (omega (arith, ints), within_more m (m + k) us (omega arith) r)
with_term_by false m k u t us p q r h = (omega arith, h)

pub with_term_within : (m k : ℕ) (us : List Term) (t : Term) → AreWithin m us → unsigned_abs t.0 ≤ k → AreWithin (m + k) (with_term us t)
with_term_within m k [] t h q = (omega arith, tt)
with_term_within m k (u ∷ us) t h q = with_term_by (u.1 == t.1) m k u t us h.0 q h.1 (with_term_within m k us t h.1 q)

pub add_terms_step : (old new : List Entry) (terms : List Term) (i : ℕ) → terms_of new ≡ with_term (terms_of old) (get_or terms i (pos 0, 0)) → i < length terms → All (λ t. unsigned_abs t.0 ≤ 2 ^ 60) terms → fold with_term (terms_of old) (drop i terms) ≡ fold with_term [] terms → All (λ t. unsigned_abs t.0 ≤ (2 ^ 60) * i) (terms_of old) → (fold with_term (terms_of new) (drop (i + 1) terms) ≡ fold with_term [] terms) × All (λ t. unsigned_abs t.0 ≤ (2 ^ 60) * (i + 1)) (terms_of new)
add_terms_step old new terms i e inside each rest small =
    let d : Term = (pos 0, 0) in
    let P : Term → Type 0 = λ t. unsigned_abs t.0 ≤ (2 ^ 60) * (i + 1) in
    let here = All-get_or (λ (t : Term). unsigned_abs t.0 ≤ 2 ^ 60) terms i d inside each in
    let before = recursion_from_All (λ (t : Term). unsigned_abs t.0 ≤ (2 ^ 60) * i) (terms_of old) small in
    let after = with_term_within ((2 ^ 60) * i) (2 ^ 60) (terms_of old) (get_or terms i d) before here in
    let size : ((2 ^ 60) * i) + (2 ^ 60) ≡ (2 ^ 60) * (i + 1) = omega arith in
    (rw (add-one, e) (rw (drop-cons terms i d inside) at rest), All-from_recursion P (terms_of new) (rw e (rw size at after)))

-- ---- the terms that are kept

int_eq_no : (a b : ℤ) → (a ≡ b → ⊥) → int_eq a b ≡ false
int_eq_no a b ne = grind (arith, ints)

kept_head : (t : Term) (ts : List Term) → (t.0 ≡ pos 0 → ⊥) → filter has_factor (t ∷ ts) ≡ t ∷ filter has_factor ts
kept_head t ts ne = let e = int_eq_no t.0 (pos 0) ne in rw e refl

dropped_head : (t : Term) (ts : List Term) → t.0 ≡ pos 0 → filter has_factor (t ∷ ts) ≡ filter has_factor ts
dropped_head t ts zero = rw zero refl

pub kept_more : (done new : List Term) (s t : List Entry) (var : ℕ) (factor f : ℤ) (m : ℕ) (whole : List Term) → s ≡ (var, factor) ∷ t → f ≡ factor → (factor ≡ pos 0 → ⊥) → new ≡ done ++ (f, var) ∷ [] → done ++ filter has_factor (terms_of s) ≡ whole → AreWithin m (filter has_factor (terms_of s)) → (new ++ filter has_factor (terms_of t) ≡ whole) × AreWithin m (filter has_factor (terms_of t))
kept_more done new s t var factor f m whole e same ne n rest fits =
    let head = kept_head (factor, var) (terms_of t) ne in
    let fits2 = rw head at (rw e at fits) in
    let rest2 = rw head at (rw e at rest) in
    (rw (n, same, append_assoc) rest2, fits2.1)

pub kept_same : (done : List Term) (s t : List Entry) (var : ℕ) (factor : ℤ) (m : ℕ) (whole : List Term) → s ≡ (var, factor) ∷ t → factor ≡ pos 0 → done ++ filter has_factor (terms_of s) ≡ whole → AreWithin m (filter has_factor (terms_of s)) → (done ++ filter has_factor (terms_of t) ≡ whole) × AreWithin m (filter has_factor (terms_of t))
kept_same done s t var factor m whole e zero rest fits =
    let head = dropped_head (factor, var) (terms_of t) zero in
    (rw head at (rw e at rest), rw head at (rw e at fits))

pub kept_fits : (s t : List Entry) (var : ℕ) (factor : ℤ) (m : ℕ) → s ≡ (var, factor) ∷ t → (factor ≡ pos 0 → ⊥) → AreWithin m (filter has_factor (terms_of s)) → unsigned_abs factor ≤ m
kept_fits s t var factor m e ne fits = (rw (kept_head (factor, var) (terms_of t) ne) at (rw e at fits)).0
