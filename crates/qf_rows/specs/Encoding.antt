-- The inequalities of a circuit: within the hull, they hold exactly where each variable has its definition's value.
use Rattle.std.specs.Prelude.{◌≡◌, ℕ, ◌+◌, ◌<◌, Bool, true, false, cond, not, ◌==◌, List, [], ◌∷◌, ◌++◌, length, map, fold, filter, slice_index_or, ℤ, pos, ◌+ℤ◌, ◌-ℤ◌, neg_ℤ, ◌↔◌, All as AllOf}
use Rattle.std.specs.Int.{int_min}
use Rattle.std.specs.Ordering.{int_eq}
use Rattle.qf_base.specs.Values.{Interval, Bounds, Term, value_of_var, interval_of_var, IsWithin}
use Rattle.qf_lin.specs.declared.inequality.Inequality.{Inequality}
use Rattle.qf_lin.specs.declared.inequality.System.{System}
use Rattle.qf_lin.specs.Inequalities.{AllHold}
use Rattle.qf_circuit.specs.declared.circuit.Def.{Def}
use Rattle.qf_circuit.specs.declared.circuit.Def.TheVariants.{Param, Const, Linear, AtLeastZero, All, Any, Not, Choose}
use Rattle.qf_circuit.specs.Circuits.{IsTruth, IsCircuit, value_of_def, eval, hull_of}

-- a term added to a list at the place of its variable, or last
abbrev pub with_term : List Term → Term → List Term
with_term [] t = t ∷ []
with_term (u ∷ us) t = cond (u.1 == t.1) ((u.0 +ℤ t.0, u.1) ∷ us) (u ∷ with_term us t)

-- equal variables added up at the first place, and factors 0 dropped
abbrev pub merged : List Term → List Term
merged terms = filter (λ t. not (int_eq t.0 (pos 0))) (fold with_term [] terms)

abbrev pub inequality : List Term → ℤ → Inequality
inequality terms least = record { terms = merged terms; least = least }

abbrev pub plus : ℕ → Term
plus var = (pos 1, var)

abbrev pub minus : ℕ → Term
minus var = (neg_ℤ (pos 1), var)

abbrev pub negated : Term → Term
negated t = (neg_ℤ t.0, t.1)

-- ---- the inequalities of the definition of variable v, with the hull over the root box

abbrev pub linear_rows : List Term → ℤ → ℕ → List Inequality
linear_rows terms n v = inequality (terms ++ minus v ∷ []) (neg_ℤ n) ∷ inequality (map negated terms ++ plus v ∷ []) n ∷ []

abbrev pub at_least_zero_rows : Interval → ℕ → ℕ → List Inequality
at_least_zero_rows h v s =
    inequality (plus v ∷ (h.0, s) ∷ []) h.0 ∷ inequality (minus v ∷ (h.1 +ℤ pos 1, s) ∷ []) (pos 1) ∷ []

-- s is at most each part
abbrev pub below_rows : List ℕ → ℕ → List Inequality
below_rows xs s = map (λ x. inequality (plus x ∷ minus s ∷ []) (pos 0)) xs

-- s is at least each part
abbrev pub above_rows : List ℕ → ℕ → List Inequality
above_rows xs s = map (λ x. inequality (plus s ∷ minus x ∷ []) (pos 0)) xs

abbrev pub all_rows : List ℕ → ℕ → List Inequality
all_rows xs s = below_rows xs s ++ inequality (plus s ∷ map minus xs) (pos 1 -ℤ pos (length xs)) ∷ []

abbrev pub any_rows : List ℕ → ℕ → List Inequality
any_rows xs s = above_rows xs s ++ inequality (map plus xs ++ minus s ∷ []) (pos 0) ∷ []

abbrev pub not_rows : ℕ → ℕ → List Inequality
not_rows x s =
    inequality (plus s ∷ plus x ∷ []) (pos 1) ∷ inequality (minus s ∷ minus x ∷ []) (neg_ℤ (pos 1)) ∷ []

-- the variable v is a where x is 1
abbrev pub chosen_rows : Interval → Interval → ℕ → ℕ → ℕ → List Inequality
chosen_rows hv ha x a v =
    let m1 = int_min (pos 0) (hv.0 -ℤ ha.1) in
    let m2 = int_min (pos 0) (ha.0 -ℤ hv.1) in
    inequality (plus v ∷ minus a ∷ (m1, x) ∷ []) m1 ∷ inequality (plus a ∷ minus v ∷ (m2, x) ∷ []) m2 ∷ []

-- .. and b where x is 0
abbrev pub other_rows : Interval → Interval → ℕ → ℕ → ℕ → List Inequality
other_rows hv hb x b v =
    let m3 = int_min (pos 0) (hv.0 -ℤ hb.1) in
    let m4 = int_min (pos 0) (hb.0 -ℤ hv.1) in
    inequality (plus v ∷ minus b ∷ (neg_ℤ m3, x) ∷ []) (pos 0) ∷ inequality (plus b ∷ minus v ∷ (neg_ℤ m4, x) ∷ []) (pos 0) ∷ []

abbrev pub choose_rows : Interval → Interval → Interval → ℕ → ℕ → ℕ → ℕ → List Inequality
choose_rows hv ha hb x a b v = chosen_rows hv ha x a v ++ other_rows hv hb x b v

abbrev pub rows_of_def : Bounds → ℕ → Def → List Inequality
rows_of_def hull v (Param k) = []
rows_of_def hull v (Const n) = []
rows_of_def hull v (Linear terms n) = linear_rows terms n v
rows_of_def hull v (AtLeastZero u) = at_least_zero_rows (interval_of_var hull u) u v
rows_of_def hull v (All xs) = all_rows xs v
rows_of_def hull v (Any xs) = any_rows xs v
rows_of_def hull v (Not x) = not_rows x v
rows_of_def hull v (Choose x a b) =
    choose_rows (interval_of_var hull v) (interval_of_var hull a) (interval_of_var hull b) x a b v

-- definitions in order, the first of them with number v
abbrev pub rows_from : Bounds → ℕ → List Def → List Inequality
rows_from hull v [] = []
rows_from hull v (d ∷ ds) = rows_of_def hull v d ++ rows_from hull (v + 1) ds

abbrev pub rows_of : Bounds → List Def → List Inequality
rows_of hull defs = rows_from hull 1 defs

-- ---- what they say

-- variables that a definition takes for truths, the one that it makes a truth among them
abbrev pub truths_at : ℕ → Def → List ℕ
truths_at v (Param k) = []
truths_at v (Const n) = []
truths_at v (Linear terms n) = []
truths_at v (AtLeastZero u) = v ∷ []
truths_at v (All xs) = v ∷ xs
truths_at v (Any xs) = v ∷ xs
truths_at v (Not x) = x ∷ []
truths_at v (Choose x a b) = x ∷ []

-- parameters and constants have no inequalities: their intervals say their values
abbrev pub HasValue : List ℤ → List ℤ → ℕ → Def → Type 0
HasValue point values v (Param k) = Unit {0}
HasValue point values v (Const n) = Unit {0}
HasValue point values v (Linear terms n) = value_of_var values v ≡ value_of_def point values (Linear terms n)
HasValue point values v (AtLeastZero u) = value_of_var values v ≡ value_of_def point values (AtLeastZero u)
HasValue point values v (All xs) = value_of_var values v ≡ value_of_def point values (All xs)
HasValue point values v (Any xs) = value_of_var values v ≡ value_of_def point values (Any xs)
HasValue point values v (Not x) = value_of_var values v ≡ value_of_def point values (Not x)
HasValue point values v (Choose x a b) = value_of_var values v ≡ value_of_def point values (Choose x a b)

-- within the hull, the inequalities of a definition hold exactly where its variable has its value
abbrev pub DefinitionsMatch : Type 0
DefinitionsMatch =
    (def : Def) (hull : Bounds) (point values : List ℤ) (v : ℕ) → IsWithin values hull → AllOf (λ x. IsTruth (value_of_var values x)) (truths_at v def) → AllHold (rows_of_def hull v def) values ↔ HasValue point values v def

-- a parameter has its value at the point
abbrev pub GivesParam : List ℤ → ℤ → Def → Type 0
GivesParam point value (Param k) = value ≡ value_of_var point k
GivesParam point value _ = Unit {0}

abbrev pub GivesParams : List ℤ → List ℤ → List Def → Type 0
GivesParams point values defs =
    (place : ℕ) → place < length defs → GivesParam point (slice_index_or values place (pos 0)) (slice_index_or defs place (Const (pos 0)))

-- among the values within the hull over a box that have the parameters of a point of the box, the circuit's own values
-- alone satisfy its inequalities
abbrev pub CircuitsMatch : Type 0
CircuitsMatch =
    (defs : List Def) (region : Bounds) (point : List ℤ) → IsCircuit defs → IsWithin point region → (values : List ℤ) → IsWithin values (hull_of region defs) → GivesParams point values defs → AllHold (rows_of (hull_of region defs) defs) values ↔ (values ≡ eval point defs)

abbrev pub is_selector : Def → Bool
is_selector (Param k) = false
is_selector (Const n) = false
is_selector (Linear terms n) = false
is_selector (AtLeastZero u) = true
is_selector (All xs) = false
is_selector (Any xs) = false
is_selector (Not x) = false
is_selector (Choose x a b) = false

-- the selectors of a circuit, where its first definition has number v
abbrev pub selectors_from : ℕ → List Def → List ℕ
selectors_from v [] = []
selectors_from v (d ∷ ds) = cond (is_selector d) (v ∷ selectors_from (v + 1) ds) (selectors_from (v + 1) ds)

abbrev pub selectors_of : List Def → List ℕ
selectors_of defs = selectors_from 1 defs

-- the inequalities of a circuit over a hull, its definitions as variables, and its selectors
abbrev pub circuit_system : Bounds → List Def → System
circuit_system hull defs = record { inequalities = rows_of hull defs; vars = length defs; selectors = selectors_of defs }
