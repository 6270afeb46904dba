-- When a board has ended, and when only others have work left.
use Rattle.std.proofs.Common.{◌≡◌, ◌≢◌, ◌∙◌, ap, sym, refl, arith, ℕ, zero, suc, ◌<◌, Bool, true, false, not, ◌&&◌, ◌||◌, List, [], ◌∷◌, length, get_or}
use Rattle.std.specs.declared.option.Option.{Option}
use Rattle.std.specs.declared.option.Option.TheVariants.{Some, None}
use Rattle.std.specs.List.{position, list_all, list_any}
use Rattle.std.proofs.lemmas.Bool.{false≢true}
use Rattle.std.proofs.lemmas.List.Sums.{AllPass-from_list_all}
use Rattle.std.proofs.lemmas.List.Quantifiers.{position-Some}
use Rattle.qf_board.specs.Boards.{BoardState, Place, Split, Refuted, Open, Held, Box, boxes, is_held, is_held_by, is_wanted, is_best_wanted, best_box, has_ended, held_place, HoldsNone}
use Rattle.qf_board.specs.Sound.{IsSound}
use Rattle.qf_board.proofs.Lists.{all_at, fail-count}
use Rattle.qf_board.proofs.BoardLaws.{position-None, boxed_place, held_place_held, length-boxed}
use Rattle.qf_search.specs.Exploring.{has_wanted, IsIdle}
use Rattle.qf_search.proofs.BoardSteps.{box_placed}

fails_somewhere : {X : Type 0} (p : X → Bool) (xs : List X) (d : X) → list_all p xs ≡ false → (k : ℕ) × (k < length xs) × (p (get_or xs k d) ≡ false)
fails_somewhere p [] d e = absurd (false≢true (sym e))
fails_somewhere {X} p (x ∷ xs) d e = by (p x) refl e (λ (h : list_all p xs ≡ false). fails_somewhere p xs d h)
  where
    by : (b : Bool) → p x ≡ b → (b && list_all p xs) ≡ false → (list_all p xs ≡ false → (k : ℕ) × (k < length xs) × (p (get_or xs k d) ≡ false)) → (k : ℕ) × (k < length (x ∷ xs)) × (p (get_or (x ∷ xs) k d) ≡ false)
    by true is e later = let rest = later e in (suc rest.0, omega (arith, rest.1), rest.2)
    by false is e later = (0, omega arith, is)

none_passes : {X : Type 0} (p : X → Bool) (xs : List X) (k : ℕ) (d : X) → list_any p xs ≡ false → k < length xs → p (get_or xs k d) ≡ false
none_passes p [] k d e inside = absurd (omega (arith, inside))
none_passes {X} p (x ∷ xs) k d e inside = by (p x) refl e (λ (j : ℕ) (h : list_any p xs ≡ false) (within : j < length xs). none_passes p xs j d h within) k inside
  where
    by : (b : Bool) → p x ≡ b → (b || list_any p xs) ≡ false → ((j : ℕ) → list_any p xs ≡ false → j < length xs → p (get_or xs j d) ≡ false) → (i : ℕ) → i < length (x ∷ xs) → p (get_or (x ∷ xs) i d) ≡ false
    by true is e later i here = absurd (false≢true (sym e))
    by false is e later zero here = is
    by false is e later (suc i) here = later i e (omega (arith, here))

somewhere : {X : Type 0} (p : X → Bool) (xs : List X) (k : ℕ) (d : X) → k < length xs → p (get_or xs k d) ≡ true → (j : ℕ) × (position p xs ≡ Some j)
somewhere {X} p xs k d inside is = by (position p xs) refl
  where
    by : (o : Option ℕ) → position p xs ≡ o → (j : ℕ) × (position p xs ≡ Some j)
    by None e = absurd (false≢true (sym (all_at (λ (x : X). p x ≡ false) xs k d (fail-count p xs (position-None p xs e)) inside) ∙ is))
    by (Some j) e = (j, e)

held_is : (e : ℕ) (x : Place) → is_held_by e x ≡ true → is_held x ≡ true
held_is e (Split param cut row) h = h
held_is e (Refuted row steps) h = h
held_is e Open h = h
held_is e (Held who) h = refl

holder : (x : Place) → is_held x ≡ true → (e : ℕ) × (is_held_by e x ≡ true)
holder (Split param cut row) h = absurd (false≢true h)
holder (Refuted row steps) h = absurd (false≢true h)
holder Open h = absurd (false≢true h)
holder (Held who) h = (who, grind arith)

not_both : (held wanted : Bool) → held ≡ true → (not held && not wanted) ≡ true → ⊥
not_both true wanted h e = false≢true e
not_both false wanted h e = false≢true h

is_it : (held wanted : Bool) → wanted ≡ false → (not held && not wanted) ≡ false → held ≡ true
is_it true wanted w e = refl
is_it false true w e = absurd (false≢true (sym w))
is_it false false w e = absurd (false≢true (sym e))

-- a board that has ended is not idle
pub ended_not_idle : (s : BoardState) (who : ℕ) → IsSound s → has_ended s ≡ true → IsIdle who s → ⊥
ended_not_idle s who sound ended idle =
    let k = idle.holds.0 in
    let held = held_place_held s idle.other k idle.holds.1 in
    let many = length-boxed s.places (s.root ∷ []) sound.stands in
    let here : k < length (boxes s) = omega (arith, held.0, many) in
    let same = boxed_place s.places (s.root ∷ []) k [] Open here in
    let passed = AllPass-from_list_all (λ (x : Box × Place). not (is_held x.1) && not (is_wanted s.prices s.best x)) (boxes s) ended k ([], Open) here in
    not_both (is_held (get_or (boxes s) k ([], Open)).1) (is_wanted s.prices s.best (get_or (boxes s) k ([], Open))) (ap is_held same.1 ∙ held_is idle.other (get_or s.places k Open) held.1) passed

other_apart : (s : BoardState) (who other j : ℕ) → held_place s other ≡ Some j → HoldsNone s who → other ≢ who
other_apart s who other j at free same = let both : Some j ≡ None = sym at ∙ (ap (λ (e : ℕ). held_place s e) same ∙ free) in cc

-- one that has not, and where no box is wanted, is
pub left_idle : (s : BoardState) (who : ℕ) → has_ended s ≡ false → has_wanted s ≡ false → HoldsNone s who → IsIdle who s
left_idle s who going none free =
    let at = fails_somewhere (λ (x : Box × Place). not (is_held x.1) && not (is_wanted s.prices s.best x)) (boxes s) ([], Open) going in
    let x = get_or (boxes s) at.0 ([], Open) in
    let held = is_it (is_held x.1) (is_wanted s.prices s.best x) (none_passes (is_wanted s.prices s.best) (boxes s) at.0 ([], Open) none at.1) at.2 in
    let other = holder x.1 held in
    let same = boxed_place s.places (s.root ∷ []) at.0 [] Open at.1 in
    let place = somewhere (is_held_by other.0) s.places at.0 Open same.0 (ap (is_held_by other.0) (sym same.1) ∙ other.1) in
    record {
      wanted = none;
      other = other.0;
      apart = other_apart s who other.0 place.0 place.1 free;
      holds = place;
    }

-- ---- where a box is wanted

both_true : (a b : Bool) → (a && b) ≡ true → a ≡ true
both_true true b h = refl
both_true false b h = absurd (false≢true h)

wanted_there : (s : BoardState) (b : Box) → best_box s ≡ Some b → (k : ℕ) × (k < length (boxes s)) × (is_wanted s.prices s.best (get_or (boxes s) k ([], Open)) ≡ true)
wanted_there s b handed =
    let at = box_placed s b handed in
    let here = position-Some (is_best_wanted s.prices s.best (boxes s)) (boxes s) at.0 ([], Open) at.1 in
    (at.0, here.0, both_true (is_wanted s.prices s.best (get_or (boxes s) at.0 ([], Open))) _ here.1)

no_want : (held wanted : Bool) → wanted ≡ true → (not held && not wanted) ≡ true → ⊥
no_want true wanted w e = false≢true e
no_want false true w e = false≢true e
no_want false false w e = false≢true w

-- a board with a wanted box has not ended, and is not idle
pub wanted_not_ended : (s : BoardState) (b : Box) → best_box s ≡ Some b → has_ended s ≡ true → ⊥
wanted_not_ended s b handed ended =
    let at = wanted_there s b handed in
    let passed = AllPass-from_list_all (λ (x : Box × Place). not (is_held x.1) && not (is_wanted s.prices s.best x)) (boxes s) ended at.0 ([], Open) at.1 in
    no_want (is_held (get_or (boxes s) at.0 ([], Open)).1) (is_wanted s.prices s.best (get_or (boxes s) at.0 ([], Open))) at.2 passed

pub wanted_not_idle : (s : BoardState) (b : Box) (who : ℕ) → best_box s ≡ Some b → IsIdle who s → ⊥
wanted_not_idle s b who handed idle =
    let at = wanted_there s b handed in
    false≢true (sym (none_passes (is_wanted s.prices s.best) (boxes s) at.0 ([], Open) idle.wanted at.1) ∙ at.2)
