-- On a box of one point a row that leaves the box open meets its goal there: the hull is exact.
use Rattle.std.proofs.Common.{◌≡◌, ◌∙◌, ap, sym, subst, refl, arith, ℕ, zero, suc, ◌-◌, ◌≤◌, nat_le, ℤ, pos, ◌*ℤ◌, int_lt, Bool, true, false, not, cond, List, [], ◌∷◌, ◌++◌, length, slice_index_or, get_or}
use Rattle.std.specs.declared.option.Option.{Option}
use Rattle.std.specs.declared.option.Option.TheVariants.{Some, None}
use Rattle.std.specs.List.{AllByRecursion, find, filter}
use Rattle.std.proofs.lemmas.Int.{ints, clamps}
use Rattle.std.proofs.lemmas.Bool.{false≢true, and_from}
use Rattle.std.proofs.lemmas.Bool.Decides.{nat_tests}
use Rattle.std.proofs.lemmas.List.Elements.{All-from_recursion}
use Rattle.qf_base.specs.declared.names.RowName.{RowName}
use Rattle.qf_base.specs.declared.names.RowName.TheVariants.{Start, Inserted}
use Rattle.qf_base.specs.Values.{Interval, Bounds, Term, IsWithin, value_of_var, term_value, total}
use Rattle.qf_base.proofs.BoxLaws.{IsWithin-In}
use Rattle.qf_base.proofs.Integers.{int_lt_false}
use Rattle.qf_lin.specs.declared.inequality.Inequality.{Inequality}
use Rattle.qf_lin.specs.Inequalities.{Holds, greatest, greatest_term, AllHold}
use Rattle.qf_circuit.specs.declared.circuit.Def.{Def}
use Rattle.qf_circuit.specs.declared.circuit.Def.TheVariants.{Param, Const, Linear, AtLeastZero, All, Any, Not, Choose}
use Rattle.qf_circuit.specs.Circuits.{value_of_def, eval, hull_of, NamesEarlier}
use Rattle.qf_circuit.specs.HullLaws.{alone, each_alone}
use Rattle.qf_circuit.proofs.Built.{eval_keeps}
use Rattle.qf_circuit.proofs.HullLemmas.{eval_in_hull}
use Rattle.qf_circuit.proofs.PointHulls.{point_hull}
use Rattle.qf_rows.specs.Encoding.{GivesParam, GivesParams}
use Rattle.qf_point.specs.Points.{Price, clamped, cheapest}
use Rattle.qf_point.proofs.PointLaws.{cheapest_in}
use Rattle.qf_ir.specs.Life.{Birth, last_moment, ending_of, birth}
use Rattle.qf_ir.specs.Plan.{Plan, RowExists}
use Rattle.qf_ir.specs.Repairs.{meets}
use Rattle.qf_goal.specs.Asked.{row_exists}
use Rattle.qf_goal.specs.Case.{Case, case_rows, outcome_at, goal_at, complained_rows, other_rows, is_complained, misses, first_failing}
use Rattle.qf_goal.specs.SoundCase.{IsSoundCase}
use Rattle.qf_goal.proofs.KeptLemmas.{rows-same, rows_exist}
use Rattle.qf_slice.specs.RootBox.{IsRootBox}
use Rattle.qf_encode.specs.declared.coded.Coded.{Coded}
use Rattle.qf_encode.specs.Lives.{BoxIn, CodesBirth}
use Rattle.qf_encode.specs.Systems.{goal_rows}
use Rattle.qf_encode.proofs.GoalRows.{goals_said, system_said}
use Rattle.qf_encode.proofs.GoalsMet.{row_encoded}
use Rattle.qf_encode.proofs.Outcomes.{plan_lives}
use Rattle.qf_encode.proofs.RowBirths.{plan_circuit}
use Rattle.qf_instance.specs.Instances.{case_circuit}
use Rattle.qf_instance.proofs.Boxes.{boxes_hold}
use Rattle.qf_instance.proofs.Encoded.{outcome_is}
use Rattle.qf_board.proofs.Lists.{all_append}
use Rattle.qf_search.specs.Closing.{is_violated}
use Rattle.qf_search.specs.Deciding.{IsOnePoint, IsOpenFor}
use Rattle.qf_search.proofs.CellKinds.{goal_fits}
use Rattle.qf_search.proofs.Repairs.{box_spans, box_long}

-- ---- rows that fail

at_most : (a b : ℕ) → a ≤ b → nat_le a b ≡ true
at_most a b e = grind (arith, nat_tests)

pub exists_test : (plan : Plan) (row : RowName) → RowExists plan row → row_exists plan row ≡ true
exists_test plan (Start k) h = and_from _ _ (at_most 1 k h.0) (at_most k plan.starts h.1)
exists_test plan (Inserted k) h = and_from _ _ (at_most 1 k h.0) (at_most k plan.inserted h.1)

found_passes : {X : Type 0} (P : X → Type 0) (test : X → Bool) (xs : List X) (x : X) → AllByRecursion P xs → find test xs ≡ Some x → P x × (test x ≡ true)
found_passes P test [] x all e = absurd (cc)
found_passes {X} P test (y ∷ xs) x all e = by (test y) refl e (λ (h : find test xs ≡ Some x). found_passes P test xs x all.1 h)
  where
    by : (b : Bool) → test y ≡ b → cond {A = Option X} b (Some y) (find test xs) ≡ Some x → (find test xs ≡ Some x → P x × (test x ≡ true)) → P x × (test x ≡ true)
    by true is e later = let same : y ≡ x = cc in (subst P same all.0, subst (λ z. test z ≡ true) same is)
    by false is e later = later e

all_filtered : {X : Type 0} (P : X → Type 0) (test : X → Bool) (xs : List X) → AllByRecursion P xs → AllByRecursion P (filter test xs)
all_filtered P test [] all = tt
all_filtered {X} P test (x ∷ xs) all = by (test x) (all_filtered P test xs all.1)
  where
    by : (b : Bool) → AllByRecursion P (filter test xs) → AllByRecursion P (cond b (x ∷ filter test xs) (filter test xs))
    by true rest = (all.0, rest)
    by false rest = rest

-- the first row that misses its goal exists, and misses it
pub failing_row : (case : Case) (point : List ℤ) (row : RowName) → IsSoundCase case → first_failing case point ≡ Some row → RowExists case.plan row × (misses case point row ≡ true)
failing_row case point row sound e =
    let exist = subst (AllByRecursion (RowExists case.plan)) (rows-same case sound) (rows_exist case.plan) in
    let all = all_append (RowExists case.plan) (complained_rows case) (other_rows case) (all_filtered (RowExists case.plan) (is_complained case) (case_rows case) exist) (all_filtered (RowExists case.plan) (λ r. not (is_complained case r)) (case_rows case) exist) in
    found_passes (RowExists case.plan) (misses case point) (complained_rows case ++ other_rows case) row all e

-- ---- a box of one point

alone_by : (low high v : ℤ) → low ≡ high → clamped (low, high) v ≡ low
alone_by low high v e = omega (arith, ints, clamps, e)

pub one_point : (prices : List Price) (region : Bounds) → length prices ≡ length region → IsOnePoint region → region ≡ each_alone (cheapest prices region)
one_point [] [] same one = refl
one_point [] (r ∷ region) same one = absurd (omega (arith, same))
one_point (p ∷ prices) [] same one = absurd (omega (arith, same))
one_point (p ∷ prices) (r ∷ region) same one =
    let here : clamped r p ≡ r.0 = alone_by r.0 r.1 p one.0 in
    let low : r.0 ≡ clamped r p = sym here in
    let high : r.1 ≡ clamped r p = sym one.0 ∙ low in
    let first : r ≡ alone (clamped r p) = ap (λ (z : ℤ). (z, r.1)) low ∙ ap (λ (z : ℤ). (clamped r p, z)) high in
    let rest = one_point prices region (omega (arith, same)) one.1 in
    ap (λ (i : Interval). i ∷ region) first ∙ ap (λ (is : Bounds). alone (clamped r p) ∷ is) rest

-- ---- values alone

alone_at : (values : List ℤ) (place : ℕ) → get_or (each_alone values) place (pos 0, pos 0) ≡ alone (get_or values place (pos 0))
alone_at [] place = refl
alone_at (v ∷ values) zero = refl
alone_at (v ∷ values) (suc place) = alone_at values place

same_either : (b : Bool) (z : ℤ) → cond b z z ≡ z
same_either true z = refl
same_either false z = refl

term_alone : (values : List ℤ) (t : Term) → greatest_term (each_alone values) t ≡ term_value values t
term_alone values t =
    let e = alone_at values (t.1 - 1) in
    rw e (same_either (int_lt t.0 (pos 0)) (t.0 *ℤ value_of_var values t.1))

greatest_alone : (values : List ℤ) (terms : List Term) → greatest terms (each_alone values) ≡ total terms values
greatest_alone values [] = refl
greatest_alone values (t ∷ ts) = let e = term_alone values t in let more = greatest_alone values ts in rw (e, more) refl

holds_alone : (values : List ℤ) (rows : List Inequality) → AllByRecursion (λ (r : Inequality). is_violated (each_alone values) r ≡ false) rows → AllByRecursion (λ (r : Inequality). Holds r values) rows
holds_alone values [] h = tt
holds_alone values (r ∷ rows) h =
    (omega (arith, ints, int_lt_false (greatest r.terms (each_alone values)) r.least h.0, greatest_alone values r.terms), holds_alone values rows h.1)

-- ---- a row's values have the parameters of their point

param_given : (point values : List ℤ) (value : ℤ) (d : Def) → value ≡ value_of_def point values d → GivesParam point value d
param_given point values value (Param k) h = h
param_given point values value (Const n) h = tt
param_given point values value (Linear terms n) h = tt
param_given point values value (AtLeastZero v) h = tt
param_given point values value (All xs) h = tt
param_given point values value (Any xs) h = tt
param_given point values value (Not x) h = tt
param_given point values value (Choose x a b) h = tt

params_given : (point : List ℤ) (defs : List Def) → NamesEarlier defs → GivesParams point (eval point defs) defs
params_given point defs names = λ place inside.
    let own = (eval_keeps point defs names).each place inside in
    param_given point (eval point defs) (slice_index_or (eval point defs) place (pos 0)) (slice_index_or defs place (Const (pos 0))) own

-- ---- the goal is met

module _ (case : Case) (root : Bounds) (row : RowName) (q : List ℤ) (sound : IsSoundCase case) (exists : RowExists case.plan row) (in_root : IsWithin q root) (c : Coded) (e : case_circuit case row ≡ Some c) (all : AllHold (goal_rows c (goal_at case row)) (eval q c.circuit)) where
  met_by : (b : Option Birth) → birth (length case.plan.columns) case.table.rows case.plan.statements row q ≡ b → CodesBirth q (Some c) b → meets (ending_of b q) (goal_at case row) ≡ true
  met_by None is codes = absurd codes
  met_by (Some b) is codes =
      let g = goal_at case row in
      let m = last_moment q b.rest b.first in
      let circuit = plan_circuit case.plan case.table row c sound.plan sound.belongs e in
      let fits = goal_fits case row q b sound exists is in
      let here = eval_in_hull c.circuit root q circuit.names in_root in
      let params = params_given q c.circuit circuit.names in
      let gives = (goals_said c g (eval q c.circuit)).0 all in
      let whole = (system_said c root g q (eval q c.circuit) circuit in_root here params).1 (refl, gives) in
      ((row_encoded c m g root q (eval q c.circuit) codes circuit in_root here params fits).0 whole).1

  pub row_meets : meets (outcome_at case q row) (goal_at case row) ≡ true
  row_meets =
      let born = birth (length case.plan.columns) case.table.rows case.plan.statements row q in
      subst (λ o. meets o (goal_at case row) ≡ true) (sym (outcome_is case.plan case.table row q exists))
      (met_by born refl (plan_lives case.plan case.table row c q sound.plan sound.belongs e))

missed : (b : Bool) → b ≡ true → not b ≡ true → ⊥
missed true e h = false≢true h
missed false e h = false≢true e

-- a row that misses its goal at the point leaves no box of one point open
pub point_closes : (case : Case) (root region : Bounds) (row : RowName) → IsSoundCase case → IsRootBox case root → BoxIn region root → IsOnePoint region → first_failing case (cheapest case.plan.olds region) ≡ Some row → IsOpenFor case region row → ⊥
point_closes case root region row sound is box one failing left =
    let q = cheapest case.plan.olds region in
    let fails = failing_row case q row sound failing in
    let long = box_long case root region sound is box in
    let in_region = cheapest_in case.plan.olds region long (box_spans region root box) in
    let in_root = boxes_hold region root box q (IsWithin-In region q in_region) in
    let hull : hull_of region left.coded.circuit ≡ each_alone (eval q left.coded.circuit) =
    ap (λ (b : Bounds). hull_of b left.coded.circuit) (one_point case.plan.olds region long one) ∙ point_hull left.coded.circuit q in
    let holds = subst (λ (b : Bounds). AllByRecursion (λ (r : Inequality). is_violated b r ≡ false) (goal_rows left.coded (goal_at case row))) hull left.holds in
    let all = All-from_recursion (λ (r : Inequality). Holds r (eval q left.coded.circuit)) (goal_rows left.coded (goal_at case row)) (holds_alone (eval q left.coded.circuit) (goal_rows left.coded (goal_at case row)) holds) in
    missed (meets (outcome_at case q row) (goal_at case row)) (row_meets case root row q sound fails.0 in_root left.coded left.is all) fails.1
