-- Within the hull, a circuit's own values alone satisfy its inequalities.
use Rattle.std.proofs.Common.{◌≡◌, ℕ, suc, zero, ◌+◌, ◌-◌, ◌<◌, ◌≤◌, true, ◌↔◌, List, [], ◌∷◌, length, get_or, ℤ, pos, arith, refl, sym, ◌∙◌, IsTrue}
use Rattle.std.specs.List.{AllByRecursion}
use Rattle.std.proofs.lemmas.Int.{ints}
use Rattle.std.proofs.lemmas.List.Elements.{All-append, All-nil, recursion_from_All, All-from_recursion}
use Rattle.qf_base.specs.Values.{Bounds, value_of_var, IsIn, IsWithin}
use Rattle.qf_lin.specs.Inequalities.{Holds, AllHold}
use Rattle.qf_circuit.specs.declared.circuit.Def.{Def}
use Rattle.qf_circuit.specs.declared.circuit.Def.TheVariants.{Param, Const, Linear, AtLeastZero, All, Any, Not, Choose}
use Rattle.qf_circuit.specs.Circuits.{value_of_def, eval, hull_of_def, hull_of, NamesEarlier, TruthsMatch, IsEvaluation, makes_truth, truth_parts, def_of, IsTruth, IsCircuit}
use Rattle.qf_rows.specs.Encoding.{rows_of_def, rows_from, rows_of, truths_at, HasValue, GivesParam, GivesParams}
use Rattle.qf_circuit.proofs.Built.{eval_keeps, only_one, hull_keeps, built_length}
use Rattle.qf_circuit.proofs.HullLemmas.{truth_hull, IsTruth-between}
use Rattle.qf_circuit.proofs.Steps.{parts_named}
use Rattle.qf_rows.proofs.Definitions.{definition_matches, rows_split}

-- ---- rows by definition

abbrev EachHolds : Bounds → ℕ → List Def → List ℤ → Type 0
EachHolds hull v ds values =
    (place : ℕ) → place < length ds → AllHold (rows_of_def hull (v + place) (get_or ds place (Const (pos 0)))) values

rows_to_each : (hull : Bounds) (v : ℕ) (ds : List Def) (values : List ℤ) → AllByRecursion (λ row. Holds row values) (rows_from hull v ds) → EachHolds hull v ds values
rows_to_each hull v [] values h place inside = absurd (omega (arith, inside))
rows_to_each hull v (d ∷ ds) values h zero inside =
    let parts = rows_split (rows_of_def hull v d) (rows_from hull (v + 1) ds) values h in
    let same : v + 0 ≡ v = omega arith in
    rw same (All-from_recursion (λ row. Holds row values) (rows_of_def hull v d) parts.0)
rows_to_each hull v (d ∷ ds) values h (suc place) inside =
    let parts = rows_split (rows_of_def hull v d) (rows_from hull (v + 1) ds) values h in
    let same : v + suc place ≡ (v + 1) + place = omega arith in
    rw same (rows_to_each hull (v + 1) ds values parts.1 place (omega (arith, inside)))

each_to_rows : (hull : Bounds) (v : ℕ) (ds : List Def) (values : List ℤ) → EachHolds hull v ds values → AllHold (rows_from hull v ds) values
each_to_rows hull v [] values h = All-nil (λ row. Holds row values)
each_to_rows hull v (d ∷ ds) values h =
    let same : v + 0 ≡ v = omega arith in
    let first = rw same at (h 0 (omega arith)) in
    All-append (λ row. Holds row values) (rows_of_def hull v d) (rows_from hull (v + 1) ds) first (each_to_rows hull (v + 1) ds values (λ place inside.
    let next : v + suc place ≡ (v + 1) + place = omega arith in
    rw next at (h (suc place) (omega (arith, inside)))))

-- ---- the values of a definition's variable

module _ (defs : List Def) (region : Bounds) (point values : List ℤ) (names : NamesEarlier defs) (truths : TruthsMatch defs) (w : IsWithin values (hull_of region defs)) (params : GivesParams point values defs) where
  length_is : length (hull_of region defs) ≡ length defs
  length_is = omega (arith, built_length (hull_of_def region) (pos 0, pos 0) [] defs)

  truth_at : (place : ℕ) → place < length defs → makes_truth (get_or defs place (Const (pos 0))) ≡ true → IsTruth (get_or values place (pos 0))
  truth_at place inside e =
      let h = truth_hull region (hull_of region defs) (get_or defs place (Const (pos 0))) e in
      let i = w.each place (omega (arith, inside, length_is)) in
      let i2 = rw (hull_keeps region defs names place inside) at i in
      IsTruth-between (get_or values place (pos 0)) (omega (arith, ints, h.0, i2.0)) (omega (arith, ints, h.1, i2.1))

  truths_in : (n : ℕ) (xs : List ℕ) → n < length defs → AllByRecursion (λ v. (0 < v) × (v ≤ n)) xs → AllByRecursion (λ x. IsTrue (makes_truth (def_of defs x))) xs → AllByRecursion (λ x. IsTruth (value_of_var values x)) xs
  truths_in n [] inside h t = tt
  truths_in n (x ∷ xs) inside h t = (truth_at (x - 1) (omega (arith, h.0.0, h.0.1)) t.0, truths_in n xs inside h.1 t.1)

  truths_here : (place : ℕ) (def : Def) → (makes_truth def ≡ true → IsTruth (value_of_var values (1 + place))) → AllByRecursion (λ x. IsTruth (value_of_var values x)) (truth_parts def) → AllByRecursion (λ x. IsTruth (value_of_var values x)) (truths_at (1 + place) def)
  truths_here place (Param k) own h = tt
  truths_here place (Const c) own h = tt
  truths_here place (Linear terms c) own h = tt
  truths_here place (AtLeastZero v) own h = (own refl, tt)
  truths_here place (All xs) own h = (own refl, h)
  truths_here place (Any xs) own h = (own refl, h)
  truths_here place (Not x) own h = h
  truths_here place (Choose x a b) own h = h

  one_up : (place : ℕ) → value_of_var values (1 + place) ≡ get_or values place (pos 0)
  one_up place = let e : (1 + place) - 1 ≡ place = omega arith in rw e refl

  all_truths : (place : ℕ) → place < length defs → AllByRecursion (λ x. IsTruth (value_of_var values x)) (truths_at (1 + place) (get_or defs place (Const (pos 0))))
  all_truths place inside =
      truths_here place (get_or defs place (Const (pos 0))) (λ e. rw (one_up place) (truth_at place inside e)) (truths_in place (truth_parts (get_or defs place (Const (pos 0)))) inside (parts_named place (get_or defs place (Const (pos 0))) (names place inside)) (truths place inside))

  -- a definition's inequalities, its point or its interval give its value
  value_from : (place : ℕ) (def : Def) → HasValue point values (1 + place) def → GivesParam point (get_or values place (pos 0)) def → IsIn (get_or values place (pos 0)) (hull_of_def region (hull_of region defs) def) → get_or values place (pos 0) ≡ value_of_def point values def
  value_from place (Param k) h p i = p
  value_from place (Const n) h p i = omega (arith, ints, i.0, i.1)
  value_from place (Linear terms n) h p i = sym (one_up place) ∙ h
  value_from place (AtLeastZero v) h p i = sym (one_up place) ∙ h
  value_from place (All xs) h p i = sym (one_up place) ∙ h
  value_from place (Any xs) h p i = sym (one_up place) ∙ h
  value_from place (Not x) h p i = sym (one_up place) ∙ h
  value_from place (Choose x a b) h p i = sym (one_up place) ∙ h

  value_to : (place : ℕ) (def : Def) → get_or values place (pos 0) ≡ value_of_def point values def → HasValue point values (1 + place) def
  value_to place (Param k) h = tt
  value_to place (Const n) h = tt
  value_to place (Linear terms n) h = one_up place ∙ h
  value_to place (AtLeastZero v) h = one_up place ∙ h
  value_to place (All xs) h = one_up place ∙ h
  value_to place (Any xs) h = one_up place ∙ h
  value_to place (Not x) h = one_up place ∙ h
  value_to place (Choose x a b) h = one_up place ∙ h

  pub satisfied_alone : AllHold (rows_of (hull_of region defs) defs) values → IsEvaluation point values defs
  satisfied_alone h = record {
    same_length = w.same_length ∙ length_is;
    each = λ place inside.
        let def = get_or defs place (Const (pos 0)) in
        let each = rows_to_each (hull_of region defs) 1 defs values (recursion_from_All (λ row. Holds row values) (rows_of (hull_of region defs) defs) h) place inside in
        let match = definition_matches def (hull_of region defs) point values (1 + place) w (all_truths place inside) in
        let i = rw (hull_keeps region defs names place inside) at (w.each place (omega (arith, inside, length_is))) in
        value_from place def (match.0 each) (params place inside) i;
  }

  pub satisfied_by_own : IsEvaluation point values defs → AllHold (rows_of (hull_of region defs) defs) values
  satisfied_by_own e = each_to_rows (hull_of region defs) 1 defs values (λ place inside.
      let def = get_or defs place (Const (pos 0)) in
      let match = definition_matches def (hull_of region defs) point values (1 + place) w (all_truths place inside) in
      match.1 (value_to place def (e.each place inside)))

pub circuit_matches : (defs : List Def) (region : Bounds) (point : List ℤ) → NamesEarlier defs → TruthsMatch defs → IsWithin point region → (values : List ℤ) → IsWithin values (hull_of region defs) → GivesParams point values defs → AllHold (rows_of (hull_of region defs) defs) values ↔ (values ≡ eval point defs)
circuit_matches defs region point names truths inside values w params = (
  λ h. only_one point values (eval point defs) defs names (satisfied_alone defs region point values names truths w params h) (eval_keeps point defs names),
  λ e. satisfied_by_own defs region point values names truths w params (rw e (eval_keeps point defs names)),
)

pub matches_over : (defs : List Def) (hull region : Bounds) (point : List ℤ) → IsCircuit defs → hull ≡ hull_of region defs → IsWithin point region → (values : List ℤ) → IsWithin values hull → GivesParams point values defs → AllHold (rows_of hull defs) values ↔ (values ≡ eval point defs)
matches_over defs hull region point circuit same inside values w params =
    let within = rw same at w in
    rw same (circuit_matches defs region point circuit.names circuit.truths inside values within params)
