-- A row that meets its goal still meets it where each of its places is as it was, or as it was of old and no seed.
use Rattle.std.proofs.Common.{◌≡◌, ◌∙◌, ap, sym, subst, refl, inl, inr, ◌⊎◌, ℕ, zero, suc, ◌+◌, ◌<◌, Bool, true, false, not, ◌&&◌, ◌==◌, if◌then◌else◌, cond, List, [], ◌∷◌, length, map, slice_index_or, arith}
use Rattle.std.specs.declared.option.Option.{Option}
use Rattle.std.specs.declared.option.Option.TheVariants.{Some, None}
use Rattle.std.specs.List.{filter}
use Rattle.std.proofs.lemmas.Bool.{false≢true}
use Rattle.std.proofs.lemmas.Bool.Decides.{nat_tests, Decides-int_eq}
use Rattle.qf_ir.specs.declared.cell.Ask.{Ask}
use Rattle.qf_ir.specs.declared.cell.Ask.TheVariants.{Absent, Present}
use Rattle.qf_ir.specs.declared.cell.Cell.{Cell}
use Rattle.qf_ir.specs.declared.cell.Cell.TheVariants.{Int, Text}
use Rattle.qf_ir.specs.declared.cell.Outcome.{Outcome}
use Rattle.qf_ir.specs.declared.cell.Outcome.TheVariants.{Gone, There}
use Rattle.qf_ir.specs.Value.{Cells, cell_at}
use Rattle.qf_ir.specs.Life.{Moment}
use Rattle.qf_ir.specs.Repairs.{same_cell, meets_cell, meet_cells, meets}
use Rattle.qf_ir.specs.Goals.{kept, old_cell, listed_or, asked_cells, goal_of}
use Rattle.qf_ir.specs.Flow.{Place, Live, At}
use Rattle.qf_goal.specs.SeedPlaces.{listed_places, differs, seeds_by}
use Rattle.qf_slice.proofs.Stable.{stable}
use Rattle.qf_slice.proofs.Twins.{outcome_of_last, AlikeAt, AsLong}

abbrev pub IsAmong : Place → List Place → Type 0
IsAmong x [] = ⊥
IsAmong x (p ∷ places) = (p ≡ x) ⊎ IsAmong x places

-- as in another moment, or as in the old one where it is no seed
abbrev pub Either : List Place → Option Moment → Option Moment → Option Moment → Place → Type 0
Either seeds old other m x = AlikeAt x m other ⊎ (AlikeAt x m old × (IsAmong x seeds → ⊥))

-- ---- cells

same-cell-self : (c : Cell) → same_cell c c ≡ true
same-cell-self (Int a) = (Decides-int_eq a a).1 refl
same-cell-self (Text a) = grind (arith, nat_tests)

same-cell-turned : (a b : Cell) → same_cell a b ≡ true → same_cell b a ≡ true
same-cell-turned (Int a) (Int b) e = (Decides-int_eq b a).1 (sym ((Decides-int_eq a b).0 e))
same-cell-turned (Int a) (Text b) e = e
same-cell-turned (Text a) (Int b) e = e
same-cell-turned (Text a) (Text b) e = grind (arith, nat_tests)

abbrev wanted_at : List (Option Cell) → ℕ → Option Cell
wanted_at wanted i = slice_index_or wanted i None

and-parts : (a b : Bool) → (a && b) ≡ true → (a ≡ true) × (b ≡ true)
and-parts true b e = (refl, e)
and-parts false b e = absurd (false≢true e)

and-made : (a b : Bool) → a ≡ true → b ≡ true → (a && b) ≡ true
and-made true b e f = f
and-made false b e f = absurd (false≢true e)

cells-met : (other cells : Cells) (wanted : List (Option Cell)) → length cells ≡ length other → meet_cells other wanted ≡ true
    → ((i : ℕ) → i < length wanted → meets_cell (cell_at other i) (wanted_at wanted i) ≡ true → meets_cell (cell_at cells i) (wanted_at wanted i) ≡ true)
    → meet_cells cells wanted ≡ true
cells-met [] [] [] long e each = refl
cells-met [] [] (w ∷ wanted) long e each = e
cells-met [] (c ∷ cells) wanted long e each = absurd (omega arith)
cells-met (o ∷ other) [] wanted long e each = absurd (omega arith)
cells-met (o ∷ other) (c ∷ cells) [] long e each = absurd (false≢true e)
cells-met (o ∷ other) (c ∷ cells) (w ∷ wanted) long e each =
    let parts = and-parts (meets_cell o w) (meet_cells other wanted) e in
    and-made (meets_cell c w) (meet_cells cells wanted) (each 0 (omega arith) parts.0)
    (cells-met other cells wanted (omega arith) parts.1 (λ i within h. each (suc i) (omega (arith, within)) h))

kept-at : (cells : Cells) (i : ℕ) → i < length (map (λ (c : Cell). Some c) cells) → wanted_at (map (λ (c : Cell). Some c) cells) i ≡ Some (cell_at cells i)
kept-at [] i within = absurd (omega arith)
kept-at (c ∷ cells) zero within = refl
kept-at (c ∷ cells) (suc i) within = kept-at cells i (omega arith)

asked-at : (first n : ℕ) (listed : List (ℕ × Cell)) (old : Outcome) (i : ℕ) → i < length (asked_cells first n listed old)
    → wanted_at (asked_cells first n listed old) i ≡ listed_or listed (first + i) (old_cell old (first + i))
asked-at first zero listed old i within = absurd (omega arith)
asked-at first (suc n) listed old zero within = let e : first ≡ first + 0 = omega arith in ap (λ c. listed_or listed c (old_cell old c)) e
asked-at first (suc n) listed old (suc i) within =
    let e : (first + 1) + i ≡ first + suc i = omega arith in
    asked-at (first + 1) n listed old i (omega arith) ∙ ap (λ c. listed_or listed c (old_cell old c)) e

-- ---- a place that is no seed

picked : {A : Type 0} (b : Bool) (x y z : A) → (b ≡ true → x ≡ z) → (b ≡ false → y ≡ z) → (if b then x else y) ≡ z
picked true x y z h k = h refl
picked false x y z h k = k refl

free-unlisted : (listed : List (ℕ × Cell)) (i : ℕ) → (IsAmong (At i) (listed_places listed) → ⊥) → listed_or listed i None ≡ None
free-unlisted [] i other = refl
free-unlisted (l ∷ listed) i other =
    picked (l.0 == i) (Some l.1) (listed_or listed i None) None
    (λ e. let same : l.0 ≡ i = grind (arith, nat_tests) in absurd (other (inl (ap (λ n. At n) same))))
    (λ e. free-unlisted listed i (λ h. other (inr h)))

-- the seeds of the other listed cells stay seeds
differing-rest : (old : Cells) (l : ℕ × Cell) (listed : List (ℕ × Cell)) (x : Place) (b : Bool) → differs old l ≡ b
    → IsAmong x (listed_places (filter (differs old) listed)) → IsAmong x (listed_places (filter (differs old) (l ∷ listed)))
differing-rest old l listed x true e h = subst (λ (b : Bool). IsAmong x (listed_places (cond b (l ∷ filter (differs old) listed) (filter (differs old) listed)))) (sym e) (inr h)
differing-rest old l listed x false e h = subst (λ (b : Bool). IsAmong x (listed_places (cond b (l ∷ filter (differs old) listed) (filter (differs old) listed)))) (sym e) h

differing-here : (old : Cells) (l : ℕ × Cell) (listed : List (ℕ × Cell)) → differs old l ≡ true → IsAmong (At l.0) (listed_places (filter (differs old) (l ∷ listed)))
differing-here old l listed e = subst (λ (b : Bool). IsAmong (At l.0) (listed_places (cond b (l ∷ filter (differs old) listed) (filter (differs old) listed)))) (sym e) (inl refl)

old-listed : (old : Cells) (listed : List (ℕ × Cell)) (i : ℕ) → (IsAmong (At i) (listed_places (filter (differs old) listed)) → ⊥)
    → meets_cell (cell_at old i) (listed_or listed i (Some (cell_at old i))) ≡ true
old-listed old [] i other = same-cell-self (cell_at old i)
old-listed old (l ∷ listed) i other = by-test (l.0 == i) refl (old-listed old listed i (λ h. other (differing-rest old l listed (At i) (differs old l) refl h)))
  where
    same-there : (b : Bool) → not b ≡ false → b ≡ true
    same-there true e = refl
    same-there false e = absurd (false≢true (sym e))

    not-differing : l.0 ≡ i → (b : Bool) → differs old l ≡ b → b ≡ false
    not-differing same true e = absurd (other (subst (λ n. IsAmong (At n) (listed_places (filter (differs old) (l ∷ listed)))) same (differing-here old l listed e)))
    not-differing same false e = refl

    by-test : (b : Bool) → (l.0 == i) ≡ b → meets_cell (cell_at old i) (listed_or listed i (Some (cell_at old i))) ≡ true
        → meets_cell (cell_at old i) (if b then Some l.1 else listed_or listed i (Some (cell_at old i))) ≡ true
    by-test true e rest =
        let same : l.0 ≡ i = grind (arith, nat_tests) in
        let stated : same_cell l.1 (cell_at old l.0) ≡ true = same-there _ (not-differing same (differs old l) refl) in
        same-cell-turned l.1 (cell_at old i) (subst (λ n. same_cell l.1 (cell_at old n) ≡ true) same stated)
    by-test false e rest = rest

-- ---- a row

abbrev moment : Bool → Cells → Option Moment
moment live cells = Some (record { cells = cells; live = live })

module _ (width : ℕ) (old other cells : Cells) (long : length cells ≡ length other) where
  -- each cell is as in the other moment, or as of old, where the old one meets what is wanted
  each-cell : (seeds : List Place) (old_live other_live live : Bool) (wanted : List (Option Cell))
      → ((x : Place) → (Either seeds (moment old_live old) (moment other_live other) (moment live cells) x → ⊥) → ⊥)
      → ((i : ℕ) → i < length wanted → (IsAmong (At i) seeds → ⊥) → meets_cell (cell_at old i) (wanted_at wanted i) ≡ true)
      → meet_cells other wanted ≡ true → meet_cells cells wanted ≡ true
  each-cell seeds old_live other_live live wanted either as_of_old e =
      cells-met other cells wanted long e (λ i within met.
      stable (meets_cell (cell_at cells i) (wanted_at wanted i)) (λ missed.
      either (At i) (λ h. elim h [
        | inl alike ↦ missed (subst (λ c. meets_cell c (wanted_at wanted i) ≡ true) (sym alike) met)
        | inr kept ↦ missed (subst (λ c. meets_cell c (wanted_at wanted i) ≡ true) (sym kept.0) (as_of_old i within kept.1))
      ])))

  abbrev Each : Option Ask → Bool → Bool → Bool → Type 0
  Each ask old_live other_live live =
      (x : Place) → (Either (seeds_by ask (outcome_of_last (moment old_live old))) (moment old_live old) (moment other_live other) (moment live cells) x → ⊥) → ⊥

  row-met : (ask : Option Ask) (old_live other_live live : Bool) → Each ask old_live other_live live
      → meets (outcome_of_last (moment other_live other)) (goal_of width ask (outcome_of_last (moment old_live old))) ≡ true
      → meets (outcome_of_last (moment live cells)) (goal_of width ask (outcome_of_last (moment old_live old))) ≡ true
  row-met None true true true either e =
      each-cell [] true true true (map (λ (c : Cell). Some c) old) either
      (λ i within other_place. ap (meets_cell (cell_at old i)) (kept-at old i within) ∙ same-cell-self (cell_at old i)) e
  row-met None true true false either e = absurd (either Live (λ h. elim h [ inl alike ↦ false≢true alike | inr kept ↦ false≢true kept.0 ]))
  row-met None true false live either e = absurd (false≢true e)
  row-met None false true live either e = absurd (false≢true e)
  row-met None false false true either e = absurd (either Live (λ h. elim h [ inl alike ↦ false≢true (sym alike) | inr kept ↦ false≢true (sym kept.0) ]))
  row-met None false false false either e = refl
  row-met (Some Absent) old_live true live either e = absurd (false≢true e)
  row-met (Some Absent) old_live false false either e = refl
  row-met (Some Absent) true false true either e = absurd (either Live (λ h. elim h [ inl alike ↦ false≢true (sym alike) | inr kept ↦ kept.1 (inl refl) ]))
  row-met (Some Absent) false false true either e = absurd (either Live (λ h. elim h [ inl alike ↦ false≢true (sym alike) | inr kept ↦ false≢true (sym kept.0) ]))
  row-met (Some (Present listed)) old_live false live either e = absurd (false≢true e)
  row-met (Some (Present listed)) true true false either e = absurd (either Live (λ h. elim h [ inl alike ↦ false≢true alike | inr kept ↦ false≢true kept.0 ]))
  row-met (Some (Present listed)) false true false either e = absurd (either Live (λ h. elim h [ inl alike ↦ false≢true alike | inr kept ↦ kept.1 (inl refl) ]))
  row-met (Some (Present listed)) true true true either e =
      each-cell (listed_places (filter (differs old) listed)) true true true (asked_cells 0 width listed (There old)) either
      (λ i within other_place.
      let here : 0 + i ≡ i = omega arith in
      ap (meets_cell (cell_at old i)) (asked-at 0 width listed (There old) i within ∙ ap (λ c. listed_or listed c (Some (cell_at old c))) here)
      ∙ old-listed old listed i other_place) e
  row-met (Some (Present listed)) false true true either e =
      each-cell (Live ∷ listed_places listed) false true true (asked_cells 0 width listed Gone) either
      (λ i within other_place.
      let here : 0 + i ≡ i = omega arith in
      ap (meets_cell (cell_at old i)) (asked-at 0 width listed Gone i within ∙ ap (λ c. listed_or listed c None) here
      ∙ free-unlisted listed i (λ h. other_place (inr h)))) e

-- the same of rows that may not be born
pub still-met : (width : ℕ) (ask : Option Ask) (old other m : Option Moment) → AsLong m other → AsLong m old
    → ((x : Place) → (Either (seeds_by ask (outcome_of_last old)) old other m x → ⊥) → ⊥)
    → meets (outcome_of_last other) (goal_of width ask (outcome_of_last old)) ≡ true → meets (outcome_of_last m) (goal_of width ask (outcome_of_last old)) ≡ true
still-met width ask None None None long long_old either e = e
still-met width ask (Some o) None None long long_old either e = absurd long_old
still-met width ask old (Some q) None long long_old either e = absurd long
still-met width ask old None (Some m) long long_old either e = absurd long
still-met width ask None (Some q) (Some m) long long_old either e = absurd long_old
still-met width ask (Some o) (Some q) (Some m) long long_old either e = row-met width o.cells q.cells m.cells long ask o.live q.live m.live either e
