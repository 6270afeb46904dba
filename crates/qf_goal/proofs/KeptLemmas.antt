-- What is kept beside a problem tells of each row.
use Rattle.std.specs.Prelude.{◌≡◌, ℕ, zero, suc, ◌+◌, ◌<◌, ◌≤◌, ℤ, Bool, true, false, not, ◌&&◌, ◌||◌, cond, List, [], ◌∷◌, ◌++◌, length, map, slice_get, ◌↔◌, is_some, is_none, option_map, if◌then◌else◌}
use Rattle.std.specs.declared.option.Option.{Option}
use Rattle.std.specs.declared.option.Option.TheVariants.{Some, None}
use Rattle.std.specs.List.{list_any, filter, find, AllByRecursion}
use Rattle.std.proofs.Common.{refl, ap, sym, ◌∙◌, arith, subst}
use Rattle.std.proofs.lemmas.List.{length-map}
use Rattle.std.proofs.lemmas.List.Folds.{list_any-append}
use Rattle.std.proofs.lemmas.Option.{slice_get-map, same_Some, slice_get_within}
use Rattle.qf_base.specs.declared.names.RowName.{RowName}
use Rattle.qf_ir.specs.declared.cell.Ask.{Ask}
use Rattle.qf_ir.specs.declared.cell.Ask.TheVariants.{Absent, Present}
use Rattle.qf_ir.specs.declared.cell.Cell.{Cell}
use Rattle.qf_ir.specs.declared.cell.Goal.{Goal}
use Rattle.qf_ir.specs.declared.cell.Outcome.{Outcome}
use Rattle.qf_ir.specs.declared.table.Table.{Table}
use Rattle.qf_ir.specs.Goals.{ask_for}
use Rattle.qf_ir.specs.Plan.{Plan, RowExists}
use Rattle.qf_ir.specs.Repairs.{starts_from, inserts_from, meets, all_meet}
use Rattle.qf_ir.specs.Replay.{same_row}
use Rattle.qf_goal.specs.Asked.{is_row}
use Rattle.qf_goal.specs.Case.{Case, case_rows, goal_in, goal_at, outcome_at, is_complained, complained_rows, other_rows, misses, mends, Mends, first_failing}
use Rattle.qf_goal.specs.Kept.{misses_unasked}
use Rattle.qf_goal.specs.SeedPlaces.{ListsColumnsBelow}
use Rattle.qf_goal.specs.SoundCase.{IsListed, IsAskOf, IsSoundCase}
use Rattle.qf_goal.specs.RowPlaces.{plan_rows, row_place, row_at, mark_of, asked_rows}
use Rattle.qf_goal.proofs.RowLemmas.{row-at-place, row-of-place, length-rows}
use Rattle.qf_goal.proofs.MarkLemmas.{position-found}

pub rows-same : (case : Case) → IsSoundCase case → plan_rows case.plan ≡ case_rows case
rows-same case sound =
    ap (λ n. starts_from 1 n ++ inserts_from 1 case.plan.inserted) (sym sound.belongs.starts)
    ∙ ap (λ n. starts_from 1 (length case.table.rows) ++ inserts_from 1 n) sound.plan.inserted

-- ---- rows that exist

start_exists : (plan : Plan) (first n : ℕ) → 1 ≤ first → first + n ≤ plan.starts + 1 → AllByRecursion (RowExists plan) (starts_from first n)
start_exists plan first zero low high = tt
start_exists plan first (suc n) low high = ((low, omega arith), start_exists plan (first + 1) n (omega arith) (omega arith))

inserted_exists : (plan : Plan) (first n : ℕ) → 1 ≤ first → first + n ≤ plan.inserted + 1 → AllByRecursion (RowExists plan) (inserts_from first n)
inserted_exists plan first zero low high = tt
inserted_exists plan first (suc n) low high = ((low, omega arith), inserted_exists plan (first + 1) n (omega arith) (omega arith))

each-joined : {X : Type 0} (P : X → Type 0) (xs ys : List X) → AllByRecursion P xs → AllByRecursion P ys → AllByRecursion P (xs ++ ys)
each-joined P [] ys each others = others
each-joined P (x ∷ xs) ys each others = (each.0, each-joined P xs ys each.1 others)

each-filter : {X : Type 0} (P : X → Type 0) (p : X → Bool) (xs : List X) → AllByRecursion P xs → AllByRecursion P (filter p xs)
each-filter P p [] each = tt
each-filter P p (x ∷ xs) each =
    elim (p x) as (λ b. AllByRecursion P (cond b (x ∷ filter p xs) (filter p xs))) [ true ↦ (each.0, each-filter P p xs each.1) | false ↦ each-filter P p xs each.1 ]

pub rows_exist : (plan : Plan) → AllByRecursion (RowExists plan) (plan_rows plan)
rows_exist plan =
    each-joined (RowExists plan) (starts_from 1 plan.starts) (inserts_from 1 plan.inserted) (start_exists plan 1 plan.starts (omega arith) (omega arith)) (inserted_exists plan 1 plan.inserted (omega arith) (omega arith))

pub kept_exist : (case : Case) (rows : List RowName) → IsSoundCase case → rows ≡ filter (λ row. is_some (ask_for case.asks row)) (plan_rows case.plan) → AllByRecursion (RowExists case.plan) rows
kept_exist case rows sound are =
    subst (AllByRecursion (RowExists case.plan)) (sym are) (each-filter (RowExists case.plan) (is_complained case) (plan_rows case.plan) (rows_exist case.plan))

pub rows-length : (case : Case) → IsSoundCase case → length (case_rows case) ≡ case.plan.starts + case.plan.inserted
rows-length case sound = ap length (sym (rows-same case sound)) ∙ length-rows case.plan

pub row-of-case : (case : Case) (place : ℕ) → IsSoundCase case → place < length (case_rows case) → slice_get (case_rows case) place ≡ Some (row_at case.plan.starts place)
row-of-case case place sound within =
    ap (λ rows. slice_get rows place) (sym (rows-same case sound)) ∙ row-of-place case.plan place (omega (arith, rows-length case sound))

-- ---- what is known at the place of a row

pub goals-length : (plan : Plan) (table : Table) (asks : List (RowName × Ask)) (goals : List Goal) → goals ≡ map (goal_in plan table asks) (plan_rows plan) → length goals ≡ plan.starts + plan.inserted
goals-length plan table asks goals are = ap length are ∙ length-map (plan_rows plan) (goal_in plan table asks) ∙ length-rows plan

pub goal-there : (plan : Plan) (table : Table) (asks : List (RowName × Ask)) (goals : List Goal) (place : ℕ) (row : RowName) (goal : Goal) → goals ≡ map (goal_in plan table asks) (plan_rows plan)
    → RowExists plan row → place ≡ row_place plan.starts row → slice_get goals place ≡ Some goal → goal ≡ goal_in plan table asks row
goal-there plan table asks goals place row goal are exists is_place at =
    same_Some _ _ (sym at ∙ ap (λ gs. slice_get gs place) are ∙ ap (slice_get (map (goal_in plan table asks) (plan_rows plan))) is_place
    ∙ slice_get-map (goal_in plan table asks) (plan_rows plan) (row_place plan.starts row) ∙ ap (λ o. option_map (goal_in plan table asks) o) (row-at-place plan row exists))

asked-among : (asks : List (RowName × Ask)) (row : RowName) → list_any (is_row row) (asked_rows asks) ≡ is_some (ask_for asks row)
asked-among [] row = refl
asked-among (a ∷ asks) row =
    elim (same_row a.0 row) as (λ b. (b || list_any (is_row row) (asked_rows asks)) ≡ is_some (if b then Some a.1 else ask_for asks row)) [ true ↦ refl | false ↦ asked-among asks row ]

pub complained_is : (asks : List (RowName × Ask)) (row : RowName) → is_some (mark_of (asked_rows asks) row) ≡ is_some (ask_for asks row)
complained_is asks row = position-found (is_row row) 0 (asked_rows asks) ∙ asked-among asks row

-- ---- listed columns

listed_below : (plan : Plan) (listed : List (ℕ × Cell)) → length plan.columns ≤ 32 → AllByRecursion (IsListed plan) listed → AllByRecursion (λ (l : ℕ × Cell). l.0 < 32) listed
listed_below plan [] few are = tt
listed_below plan (l ∷ listed) few are = (omega (arith, slice_get_within plan.columns l.0 are.0.column are.0.there), listed_below plan listed few are.1)

ask_below : (plan : Plan) (ask : Ask) → length plan.columns ≤ 32 → IsAskOf plan ask → ListsColumnsBelow 32 ask
ask_below plan Absent few is = tt
ask_below plan (Present listed) few is = listed_below plan listed few is

pub asks_below : (plan : Plan) (asks : List (RowName × Ask)) → length plan.columns ≤ 32 → AllByRecursion (λ (a : RowName × Ask). IsAskOf plan a.1) asks
    → AllByRecursion (λ (a : RowName × Ask). ListsColumnsBelow 32 a.1) asks
asks_below plan [] few are = tt
asks_below plan (a ∷ asks) few are = (ask_below plan a.1 few are.0, asks_below plan asks few are.1)

-- ---- the order in which rows are tried

abbrev find_or : {X : Type 0} → Option X → Option X → Option X
find_or None other = other
find_or (Some x) other = Some x

or_assoc : (a b c : Bool) → ((a || b) || c) ≡ (a || (b || c))
or_assoc true b c = refl
or_assoc false b c = refl

or_swap : (a b c : Bool) → (a || (b || c)) ≡ (b || (a || c))
or_swap true true c = refl
or_swap true false c = refl
or_swap false b c = refl

-- no row of a list misses its goal exactly where all meet theirs
none-missing : (outcome : RowName → Outcome) (goal : RowName → Goal) (rows : List RowName) → all_meet outcome rows (map goal rows) ≡ not (list_any (λ row. not (meets (outcome row) (goal row))) rows)
none-missing outcome goal [] = refl
none-missing outcome goal (row ∷ rows) =
    elim (meets (outcome row) (goal row)) as (λ b. (b && all_meet outcome rows (map goal rows)) ≡ not (not b || list_any (λ r. not (meets (outcome r) (goal r))) rows))
    [ true ↦ none-missing outcome goal rows | false ↦ refl ]

find-none : {X : Type 0} (p : X → Bool) (xs : List X) → is_none (find p xs) ≡ not (list_any p xs)
find-none p [] = refl
find-none p (x ∷ xs) = elim (p x) as (λ b. is_none (cond b (Some x) (find p xs)) ≡ not (b || list_any p xs)) [ true ↦ refl | false ↦ find-none p xs ]

find-append : {X : Type 0} (p : X → Bool) (xs ys : List X) → find p (xs ++ ys) ≡ find_or (find p xs) (find p ys)
find-append p [] ys = refl
find-append p (x ∷ xs) ys = elim (p x) as (λ b. cond b (Some x) (find p (xs ++ ys)) ≡ find_or (cond b (Some x) (find p xs)) (find p ys)) [ true ↦ refl | false ↦ find-append p xs ys ]

any-parts : {X : Type 0} (p part : X → Bool) (xs : List X) → list_any p (filter part xs ++ filter (λ x. not (part x)) xs) ≡ list_any p xs
any-parts {X} p part xs = list_any-append p (filter part xs) (filter (λ x. not (part x)) xs) ∙ parts xs
  where
    parts : (zs : List X) → (list_any p (filter part zs) || list_any p (filter (λ x. not (part x)) zs)) ≡ list_any p zs
    parts [] = refl
    parts (z ∷ zs) =
        elim (part z) as (λ b. (list_any p (cond b (z ∷ filter part zs) (filter part zs)) || list_any p (cond (not b) (z ∷ filter (λ x. not (part x)) zs) (filter (λ x. not (part x)) zs))) ≡ (p z || list_any p zs)) [
          | true ↦ or_assoc (p z) (list_any p (filter part zs)) (list_any p (filter (λ x. not (part x)) zs)) ∙ ap (λ b. p z || b) (parts zs)
          | false ↦ or_swap (list_any p (filter part zs)) (p z) (list_any p (filter (λ x. not (part x)) zs)) ∙ ap (λ b. p z || b) (parts zs)
        ]

-- every row meets its goal exactly where no row fails
pub none-failing : (case : Case) (point : List ℤ) → mends case point ≡ is_none (first_failing case point)
none-failing case point =
    none-missing (outcome_at case point) (goal_at case) (case_rows case)
    ∙ ap not (sym (any-parts (misses case point) (is_complained case) (case_rows case)))
    ∙ sym (find-none (misses case point) (complained_rows case ++ other_rows case))

find-filter : {X : Type 0} (p part : X → Bool) (xs : List X) → find p (filter part xs) ≡ find (λ x. part x && p x) xs
find-filter p part [] = refl
find-filter p part (x ∷ xs) =
    elim (part x) as (λ b. find p (cond b (x ∷ filter part xs) (filter part xs)) ≡ cond (b && p x) (Some x) (find (λ y. part y && p y) xs))
    [ true ↦ ap (λ later. cond (p x) (Some x) later) (find-filter p part xs) | false ↦ find-filter p part xs ]

-- rows are tried in two parts
pub failing_found : (case : Case) (point : List ℤ) (row : RowName) (first : Option RowName) → first ≡ Some row → first ≡ find (misses case point) (complained_rows case)
    → Some row ≡ first_failing case point
failing_found case point row first is found =
    sym (find-append (misses case point) (complained_rows case) (other_rows case) ∙ ap (λ o. find_or o (find (misses case point) (other_rows case))) (sym found ∙ is))

pub failing_later : (case : Case) (point : List ℤ) (first later : Option RowName) → first ≡ None → first ≡ find (misses case point) (complained_rows case)
    → later ≡ find (misses_unasked case point) (case_rows case) → later ≡ first_failing case point
failing_later case point first later is none found =
    found ∙ sym (find-filter (misses case point) (λ row. not (is_complained case row)) (case_rows case))
    ∙ sym (find-append (misses case point) (complained_rows case) (other_rows case) ∙ ap (λ o. find_or o (find (misses case point) (other_rows case))) (sym none ∙ is))

-- what the first failing row tells
pub failing_tells : (case : Case) (point : List ℤ) (failing : Option RowName) → failing ≡ first_failing case point → (failing ≡ None) ↔ Mends case point
failing_tells case point failing is =
    (λ none. none-failing case point ∙ ap is_none (sym is ∙ none), λ mended. by_case failing (ap is_none is ∙ sym (none-failing case point) ∙ mended))
  where
    by_case : (o : Option RowName) → is_none o ≡ true → o ≡ None
    by_case None none = refl
    by_case (Some row) none = absurd (cc)
