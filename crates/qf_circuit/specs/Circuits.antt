-- Circuits: lists of definitions over parameters. Definition n stands at place n - 1.
use Rattle.std.specs.Prelude.{◌≡◌, ◌⊎◌, ℕ, ◌+◌, ◌-◌, ◌^◌, ◌<◌, ◌≤◌, Bool, true, false, cond, not, ◌||◌, List, [], ◌∷◌, ◌++◌, length, map, slice_index_or, ℤ, pos, ◌+ℤ◌, ◌*ℤ◌, int_lt, int_le, IsTrue}
use Rattle.std.specs.List.{list_any, list_all, AllByRecursion}
use Rattle.std.specs.Ordering.{int_eq}
use Rattle.std.specs.Int.{int_max, int_min}
use Rattle.qf_base.specs.Values.{Interval, Bounds, value_of_var, interval_of_var, int_sum_by, total}
use Rattle.qf_circuit.specs.declared.circuit.Def.{Def}
use Rattle.qf_circuit.specs.declared.circuit.Def.TheVariants.{Param, Const, Linear, AtLeastZero, All, Any, Not, Choose}

-- truth is 1 or 0
abbrev pub truth : Bool → ℤ
truth b = cond b (pos 1) (pos 0)

abbrev pub is_set : ℤ → Bool
is_set z = int_lt (pos 0) z

abbrev pub IsTruth : ℤ → Type 0
IsTruth z = (z ≡ pos 0) ⊎ (z ≡ pos 1)

-- ---- values

-- the value of a definition where parameters and earlier definitions have these values
abbrev pub value_of_def : List ℤ → List ℤ → Def → ℤ
value_of_def point values (Param k) = value_of_var point k
value_of_def point values (Const n) = n
value_of_def point values (Linear terms n) = total terms values +ℤ n
value_of_def point values (AtLeastZero v) = truth (int_le (pos 0) (value_of_var values v))
value_of_def point values (All xs) = truth (list_all (λ x. is_set (value_of_var values x)) xs)
value_of_def point values (Any xs) = truth (list_any (λ x. is_set (value_of_var values x)) xs)
value_of_def point values (Not x) = truth (not (is_set (value_of_var values x)))
value_of_def point values (Choose x a b) = cond (is_set (value_of_var values x)) (value_of_var values a) (value_of_var values b)

-- a list made in order, each item from those before it
abbrev pub built : {X : Type 0} → (List X → Def → X) → List X → List Def → List X
built f done [] = done
built f done (d ∷ ds) = built f (done ++ f done d ∷ []) ds

abbrev pub eval : List ℤ → List Def → List ℤ
eval point defs = built (value_of_def point) [] defs

-- ---- hulls

abbrev pub least_product : ℤ → Interval → ℤ
least_product factor interval = cond (int_lt factor (pos 0)) (factor *ℤ interval.1) (factor *ℤ interval.0)

abbrev pub most_product : ℤ → Interval → ℤ
most_product factor interval = cond (int_lt factor (pos 0)) (factor *ℤ interval.0) (factor *ℤ interval.1)

abbrev pub hull_of_def : Bounds → Bounds → Def → Interval
hull_of_def region hull (Param k) = interval_of_var region k
hull_of_def region hull (Const n) = (n, n)
hull_of_def region hull (Linear terms n) =
    (int_sum_by (λ t. least_product t.0 (interval_of_var hull t.1)) terms +ℤ n, int_sum_by (λ t. most_product t.0 (interval_of_var hull t.1)) terms +ℤ n)
hull_of_def region hull (AtLeastZero v) =
    (truth (int_le (pos 0) (interval_of_var hull v).0), truth (int_le (pos 0) (interval_of_var hull v).1))
hull_of_def region hull (All xs) =
    (truth (list_all (λ x. is_set (interval_of_var hull x).0) xs), truth (list_all (λ x. is_set (interval_of_var hull x).1) xs))
hull_of_def region hull (Any xs) =
    (truth (list_any (λ x. is_set (interval_of_var hull x).0) xs), truth (list_any (λ x. is_set (interval_of_var hull x).1) xs))
hull_of_def region hull (Not x) =
    (truth (not (is_set (interval_of_var hull x).1)), truth (not (is_set (interval_of_var hull x).0)))
hull_of_def region hull (Choose x a b) =
    let p = interval_of_var hull a in
    let q = interval_of_var hull b in
    cond (is_set (interval_of_var hull x).0) p (cond (is_set (interval_of_var hull x).1) (int_min p.0 q.0, int_max p.1 q.1) q)

abbrev pub hull_of : Bounds → List Def → Bounds
hull_of region defs = built (hull_of_def region) [] defs

-- ---- which circuits are meant

abbrev pub named : Def → List ℕ
named (Param k) = []
named (Const n) = []
named (Linear terms n) = map (λ t. t.1) terms
named (AtLeastZero v) = v ∷ []
named (All xs) = xs
named (Any xs) = xs
named (Not x) = x ∷ []
named (Choose x a b) = x ∷ a ∷ b ∷ []

-- a definition names only earlier ones
abbrev pub NamesEarlier : List Def → Type 0
NamesEarlier defs =
    (place : ℕ) → place < length defs → AllByRecursion (λ v. (0 < v) × (v ≤ place)) (named (slice_index_or defs place (Const (pos 0))))

-- definitions whose value is 0 or 1
abbrev pub makes_truth : Def → Bool
makes_truth (Param k) = false
makes_truth (Const n) = int_eq n (pos 0) || int_eq n (pos 1)
makes_truth (Linear terms n) = false
makes_truth (AtLeastZero v) = true
makes_truth (All xs) = true
makes_truth (Any xs) = true
makes_truth (Not x) = true
makes_truth (Choose x a b) = false

-- the parts that a definition takes for truths
abbrev pub truth_parts : Def → List ℕ
truth_parts (Param k) = []
truth_parts (Const n) = []
truth_parts (Linear terms n) = []
truth_parts (AtLeastZero v) = []
truth_parts (All xs) = xs
truth_parts (Any xs) = xs
truth_parts (Not x) = x ∷ []
truth_parts (Choose x a b) = x ∷ []

abbrev pub def_of : List Def → ℕ → Def
def_of defs v = slice_index_or defs (v - 1) (Const (pos 0))

abbrev pub TruthsMatch : List Def → Type 0
TruthsMatch defs =
    (place : ℕ) → place < length defs → AllByRecursion (λ x. IsTrue (makes_truth (def_of defs x))) (truth_parts (slice_index_or defs place (Const (pos 0))))

-- values that keep every definition
pub record IsEvaluation (point values : List ℤ) (defs : List Def) : Type 0 where
  pub same_length : length values ≡ length defs
  pub each : (place : ℕ) → place < length defs → slice_index_or values place (pos 0) ≡ value_of_def point values (slice_index_or defs place (Const (pos 0)))

-- what every circuit is
pub record IsCircuit (defs : List Def) : Type 0 where
  pub names : NamesEarlier defs
  pub truths : TruthsMatch defs
  pub few : length defs < 2 ^ 32

-- a definition that may stand after these
pub record MayFollow (defs : List Def) (def : Def) : Type 0 where
  pub names : AllByRecursion (λ v. (0 < v) × (v ≤ length defs)) (named def)
  pub truths : AllByRecursion (λ x. IsTrue (makes_truth (def_of defs x))) (truth_parts def)
  pub few : length defs + 1 < 2 ^ 32

-- ---- how large a circuit is

-- a definition counts once, and each part of All and of Any once more
abbrev pub def_size : Def → ℕ
def_size (Param k) = 1
def_size (Const n) = 1
def_size (Linear terms n) = 1
def_size (AtLeastZero v) = 1
def_size (All xs) = 1 + length xs
def_size (Any xs) = 1 + length xs
def_size (Not x) = 1
def_size (Choose x a b) = 1

abbrev pub circuit_size : List Def → ℕ
circuit_size [] = 0
circuit_size (d ∷ ds) = def_size d + circuit_size ds
