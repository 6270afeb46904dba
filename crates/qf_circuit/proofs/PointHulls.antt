-- Over the box of one point, each interval of a circuit's hull is the value there alone.
use Rattle.std.proofs.Common.{◌≡◌, ℕ, zero, suc, ◌-◌, Bool, true, false, cond, List, [], ◌∷◌, ◌++◌, get_or, ℤ, pos, ◌+ℤ◌, ◌*ℤ◌, int_lt, refl, ap, ◌∙◌}
use Rattle.std.specs.List.{list_any, list_all}
use Rattle.std.specs.Int.{int_min, int_max}
use Rattle.qf_base.specs.Values.{Interval, Term, value_of_var, interval_of_var, int_sum_by, term_value}
use Rattle.qf_circuit.specs.declared.circuit.Def.{Def}
use Rattle.qf_circuit.specs.declared.circuit.Def.TheVariants.{Param, Const, Linear, AtLeastZero, All, Any, Not, Choose}
use Rattle.qf_circuit.specs.Circuits.{truth, is_set, value_of_def, built, eval, hull_of_def, hull_of}
use Rattle.qf_circuit.specs.Limits.{SumFits, LinearFits, ValueFits, HullFits, ValuesFit, HullsFit, least_term, most_term}
use Rattle.qf_circuit.specs.HullLaws.{alone, each_alone}

alone_at : (values : List ℤ) (place : ℕ) → get_or (each_alone values) place (pos 0, pos 0) ≡ alone (get_or values place (pos 0))
alone_at [] place = refl
alone_at (v ∷ values) zero = refl
alone_at (v ∷ values) (suc place) = alone_at values place

var_alone : (values : List ℤ) (v : ℕ) → interval_of_var (each_alone values) v ≡ alone (value_of_var values v)
var_alone values v = alone_at values (v - 1)

same_either : (b : Bool) (z : ℤ) → cond b z z ≡ z
same_either true z = refl
same_either false z = refl

least_alone : (values : List ℤ) (t : Term) → least_term (each_alone values) t ≡ term_value values t
least_alone values t =
    let e = var_alone values t.1 in
    rw e (same_either (int_lt t.0 (pos 0)) (t.0 *ℤ value_of_var values t.1))

most_alone : (values : List ℤ) (t : Term) → most_term (each_alone values) t ≡ term_value values t
most_alone values t =
    let e = var_alone values t.1 in
    rw e (same_either (int_lt t.0 (pos 0)) (t.0 *ℤ value_of_var values t.1))

sum_alone : (f g : Term → ℤ) (terms : List Term) → ((t : Term) → f t ≡ g t) → int_sum_by f terms ≡ int_sum_by g terms
sum_alone f g [] h = refl
sum_alone f g (t ∷ ts) h = let e = h t in let more = sum_alone f g ts h in rw (e, more) refl

all_alone : (p q : ℕ → Bool) (xs : List ℕ) → ((x : ℕ) → p x ≡ q x) → list_all p xs ≡ list_all q xs
all_alone p q [] h = refl
all_alone p q (x ∷ xs) h = let e = h x in let more = all_alone p q xs h in rw (e, more) refl

any_alone : (p q : ℕ → Bool) (xs : List ℕ) → ((x : ℕ) → p x ≡ q x) → list_any p xs ≡ list_any q xs
any_alone p q [] h = refl
any_alone p q (x ∷ xs) h = let e = h x in let more = any_alone p q xs h in rw (e, more) refl

set_low : (values : List ℤ) (x : ℕ) → is_set (interval_of_var (each_alone values) x).0 ≡ is_set (value_of_var values x)
set_low values x = let e = var_alone values x in rw e refl

set_high : (values : List ℤ) (x : ℕ) → is_set (interval_of_var (each_alone values) x).1 ≡ is_set (value_of_var values x)
set_high values x = let e = var_alone values x in rw e refl

chosen : (b : Bool) (p q r : Interval) → cond b p (cond b r q) ≡ cond b p q
chosen true p q r = refl
chosen false p q r = refl

alone_either : (b : Bool) (y z : ℤ) → cond b (alone y) (alone z) ≡ alone (cond b y z)
alone_either true y z = refl
alone_either false y z = refl

pair : (a b z : ℤ) → a ≡ z → b ≡ z → (a, b) ≡ alone z
pair a b z e f = rw (e, f) refl

def_alone : (point values : List ℤ) (d : Def) → hull_of_def (each_alone point) (each_alone values) d ≡ alone (value_of_def point values d)
def_alone point values (Param k) = var_alone point k
def_alone point values (Const n) = refl
def_alone point values (Linear terms n) =
    pair _ _ _
    (ap (λ z. z +ℤ n) (sum_alone (least_term (each_alone values)) (term_value values) terms (least_alone values)))
    (ap (λ z. z +ℤ n) (sum_alone (most_term (each_alone values)) (term_value values) terms (most_alone values)))
def_alone point values (AtLeastZero v) = let e = var_alone values v in rw e refl
def_alone point values (All xs) =
    pair _ _ _ (ap truth (all_alone _ _ xs (set_low values))) (ap truth (all_alone _ _ xs (set_high values)))
def_alone point values (Any xs) =
    pair _ _ _ (ap truth (any_alone _ _ xs (set_low values))) (ap truth (any_alone _ _ xs (set_high values)))
def_alone point values (Not x) = let e = var_alone values x in rw e refl
def_alone point values (Choose x a b) =
    let e1 = var_alone values x in
    let e2 = var_alone values a in
    let e3 = var_alone values b in
    let s = is_set (value_of_var values x) in
    let p = value_of_var values a in
    let q = value_of_var values b in
    rw (e1, e2, e3) (chosen s (alone p) (alone q) (int_min p q, int_max p q) ∙ alone_either s p q)

each_append : (xs : List ℤ) (z : ℤ) → each_alone (xs ++ z ∷ []) ≡ each_alone xs ++ alone z ∷ []
each_append [] z = refl
each_append (x ∷ xs) z = ap (λ rest. alone x ∷ rest) (each_append xs z)

built_alone : (point done : List ℤ) (defs : List Def) → built (hull_of_def (each_alone point)) (each_alone done) defs ≡ each_alone (built (value_of_def point) done defs)
built_alone point done [] = refl
built_alone point done (d ∷ ds) =
    let more = built_alone point (done ++ value_of_def point done d ∷ []) ds in
    let e = def_alone point done d in
    rw e (rw (each_append done (value_of_def point done d)) at more)

pub point_hull : (defs : List Def) (point : List ℤ) → hull_of (each_alone point) defs ≡ each_alone (eval point defs)
point_hull defs point = built_alone point [] defs

-- ---- the numbers that come up

sum_fits : (f g : Term → ℤ) (sum : ℤ) (terms : List Term) → ((t : Term) → f t ≡ g t) → SumFits f sum terms → SumFits g sum terms
sum_fits f g sum [] h fits = tt
sum_fits f g sum (t ∷ ts) h fits =
    let e = h t in
    (rw e at fits.0, rw e at fits.1, sum_fits f g (sum +ℤ g t) ts h (rw e at fits.2))

linear_fits : (f g : Term → ℤ) (terms : List Term) (n : ℤ) → ((t : Term) → f t ≡ g t) → LinearFits f terms n → LinearFits g terms n
linear_fits f g terms n h fits =
    let e = sum_alone f g terms h in
    (sum_fits f g (pos 0) terms h fits.0, rw e at fits.1)

value_fits : (values : List ℤ) (d : Def) → HullFits (each_alone values) d → ValueFits values d
value_fits values (Param k) fits = tt
value_fits values (Const n) fits = tt
value_fits values (Linear terms n) fits = linear_fits (least_term (each_alone values)) (term_value values) terms n (least_alone values) fits.0
value_fits values (AtLeastZero v) fits = tt
value_fits values (All xs) fits = tt
value_fits values (Any xs) fits = tt
value_fits values (Not x) fits = tt
value_fits values (Choose x a b) fits = tt

pub point_fits : (point done : List ℤ) (defs : List Def) → HullsFit (each_alone point) (each_alone done) defs → ValuesFit point done defs
point_fits point done [] fits = tt
point_fits point done (d ∷ ds) fits =
    let e = def_alone point done d in
    let rest = rw e at fits.1 in
    (value_fits done d fits.0, point_fits point (done ++ value_of_def point done d ∷ []) ds (rw (← (each_append done (value_of_def point done d))) at rest))
