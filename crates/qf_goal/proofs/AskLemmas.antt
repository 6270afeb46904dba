-- The complaint about a row, found by its mark.
use Rattle.std.specs.Prelude.{◌≡◌, ℕ, suc, ◌+◌, ◌<◌, Bool, true, false, cond, List, [], ◌∷◌, length, slice_get, option_map, if◌then◌else◌}
use Rattle.std.specs.declared.option.Option.{Option}
use Rattle.std.specs.declared.option.Option.TheVariants.{Some, None}
use Rattle.std.specs.Option.{ForSome}
use Rattle.std.specs.List.{position_from, AllByRecursion}
use Rattle.std.proofs.Common.{refl, ap, sym, ◌∙◌, arith, add-one, subst}
use Rattle.std.proofs.lemmas.List.{length-map}
use Rattle.std.proofs.lemmas.Option.{slice_get-map, same_Some, none-some}
use Rattle.qf_base.specs.declared.names.RowName.{RowName}
use Rattle.qf_ir.specs.declared.cell.Ask.{Ask}
use Rattle.qf_ir.specs.Plan.{Plan}
use Rattle.qf_ir.specs.Replay.{same_row}
use Rattle.qf_ir.specs.Goals.{ask_for}
use Rattle.qf_goal.specs.Asked.{is_row}
use Rattle.qf_goal.specs.RowPlaces.{plan_rows, mark_of, marks_of, asked_rows, ask_by}

position-later : {X : Type 0} (p : X → Bool) (first : ℕ) (xs : List X) → position_from p (first + 1) xs ≡ option_map suc (position_from p first xs)
position-later p first [] = refl
position-later p first (x ∷ xs) =
    elim (p x) as (λ b. cond b (Some (first + 1)) (position_from p (first + 1 + 1) xs) ≡ option_map suc (cond b (Some first) (position_from p (first + 1) xs)))
    [ true ↦ ap Some (add-one first) | false ↦ position-later p (first + 1) xs ]

position-within : {X : Type 0} (p : X → Bool) (first : ℕ) (xs : List X) (k : ℕ) → position_from p first xs ≡ Some k → k < first + length xs
position-within p first [] k found = absurd (none-some _ found)
position-within p first (x ∷ xs) k found =
    elim (p x) as (λ b. cond b (Some first) (position_from p (first + 1) xs) ≡ Some k → k < first + suc (length xs))
    [ true ↦ λ found. omega (arith, same_Some _ _ found) | false ↦ λ found. omega (arith, position-within p (first + 1) xs k found) ] found

-- a mark is the place of a complaint
pub mark-within : (asks : List (RowName × Ask)) (row : RowName) (mark : Option ℕ) → mark ≡ mark_of (asked_rows asks) row → ForSome mark (λ place. place < length asks)
mark-within asks row mark is place at =
    omega (arith, position-within (is_row row) 0 (asked_rows asks) place (sym is ∙ at), length-map asks (λ (a : RowName × Ask). a.0))

ask_by-later : (a : RowName × Ask) (asks : List (RowName × Ask)) (mark : Option ℕ) → ask_by (a ∷ asks) (option_map suc mark) ≡ ask_by asks mark
ask_by-later a asks None = refl
ask_by-later a asks (Some place) = refl

-- .. and tells what is asked of the row
pub ask-marked : (asks : List (RowName × Ask)) (row : RowName) → ask_by asks (mark_of (asked_rows asks) row) ≡ ask_for asks row
ask-marked [] row = refl
ask-marked (a ∷ asks) row =
    elim (same_row a.0 row) as (λ b. ask_by (a ∷ asks) (cond b (Some 0) (position_from (is_row row) (0 + 1) (asked_rows asks))) ≡ (if b then Some a.1 else ask_for asks row)) [
      | true ↦ refl
      | false ↦ ap (ask_by (a ∷ asks)) (position-later (is_row row) 0 (asked_rows asks)) ∙ ask_by-later a asks (mark_of (asked_rows asks) row) ∙ ask-marked asks row
    ]

-- the mark of the row at a place
pub mark-there : (plan : Plan) (rows : List RowName) (marks : List (Option ℕ)) (place : ℕ) (row : RowName) (mark : Option ℕ) → slice_get (plan_rows plan) place ≡ Some row
    → marks ≡ marks_of plan rows → slice_get marks place ≡ Some mark → mark ≡ mark_of rows row
mark-there plan rows marks place row mark there is at =
    same_Some _ _ (sym at ∙ ap (λ ms. slice_get ms place) is ∙ slice_get-map (mark_of rows) (plan_rows plan) place ∙ ap (λ o. option_map (mark_of rows) o) there)

-- what holds of all that is asked holds of what is asked of a row
each-ask-for : (P : Ask → Type 0) (asks : List (RowName × Ask)) (row : RowName) (wanted : Ask) → ask_for asks row ≡ Some wanted → AllByRecursion (λ (a : RowName × Ask). P a.1) asks → P wanted
each-ask-for P [] row wanted is each = absurd (none-some _ is)
each-ask-for P (a ∷ asks) row wanted is each =
    elim (same_row a.0 row) as (λ b. (if b then Some a.1 else ask_for asks row) ≡ Some wanted → P wanted)
    [ true ↦ λ is. let e : a.1 ≡ wanted = same_Some _ _ is in subst P e each.0 | false ↦ λ is. each-ask-for P asks row wanted is each.1 ] is

pub each-ask : (P : Ask → Type 0) (asks : List (RowName × Ask)) (row : RowName) (ask : Option Ask) → ask ≡ ask_for asks row → AllByRecursion (λ (a : RowName × Ask). P a.1) asks → ForSome ask P
each-ask P asks row ask is each wanted at = each-ask-for P asks row wanted (sym is ∙ at) each
