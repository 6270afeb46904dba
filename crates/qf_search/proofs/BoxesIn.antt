-- Each box of a board lies in the root box.
use Rattle.std.proofs.Common.{◌≡◌, arith, ℕ, zero, suc, ◌-◌, ◌<◌, ℤ, int_le, int_lt, true, List, [], ◌∷◌, length}
use Rattle.std.specs.declared.option.Option.TheVariants.{Some}
use Rattle.std.specs.List.{AllByRecursion}
use Rattle.std.proofs.lemmas.Bool.{and_from}
use Rattle.qf_base.specs.Values.{Bounds, interval_at}
use Rattle.qf_base.proofs.Integers.{int_le_yes, int_lt_yes}
use Rattle.qf_point.specs.Points.{CanCut, lower_half, upper_half}
use Rattle.qf_tree.specs.Certificates.{cuts_inside}
use Rattle.qf_encode.specs.Lives.{BoxIn}
use Rattle.qf_instance.proofs.Boxes.{boxes_halve}
use Rattle.qf_board.specs.Boards.{BoardState, Place, Split, Refuted, Open, Held, Box, boxed, box_at, best_place}
use Rattle.qf_board.specs.Sound.{Stands, IsSound}
use Rattle.qf_board.proofs.BoardLaws.{box_here, length-boxed, best_place_open}

cut_inside : (b : Box) (param : ℕ) (cut : ℤ) → CanCut b (param - 1) cut → cuts_inside b param cut ≡ true
cut_inside b param cut can =
    let r = interval_at b (param - 1) in
    and_from (int_le r.0 cut) (int_lt cut r.1) (int_le_yes r.0 cut can.low) (int_lt_yes cut r.1 can.high)

module _ (root : Bounds) where
  abbrev AllIn : List Box → Type 0
  AllIn bs = AllByRecursion (λ (b : Box). BoxIn b root) bs

  boxed_in : (places : List Place) (pending : List Box) (k : ℕ) → Stands places pending → AllIn pending → k < length (boxed places pending) → BoxIn (box_here (boxed places pending) k) root
  boxed_in [] pending k h all inside = absurd (omega (arith, inside))
  boxed_in (n ∷ places) [] k h all inside = absurd (omega (arith, inside))
  boxed_in (Split param cut r ∷ places) (b ∷ pending) zero h all inside = all.0
  boxed_in (Refuted r steps ∷ places) (b ∷ pending) zero h all inside = all.0
  boxed_in (Open ∷ places) (b ∷ pending) zero h all inside = all.0
  boxed_in (Held who ∷ places) (b ∷ pending) zero h all inside = all.0
  boxed_in (Split param cut r ∷ places) (b ∷ pending) (suc k) h all inside =
      let halves = boxes_halve b root param cut all.0 (cut_inside b param cut h.0) in
      boxed_in places (lower_half b (param - 1) cut ∷ upper_half b (param - 1) cut ∷ pending) k h.1 (halves.0, (halves.1, all.1)) (omega (arith, inside))
  boxed_in (Refuted r steps ∷ places) (b ∷ pending) (suc k) h all inside = boxed_in places pending k h all.1 (omega (arith, inside))
  boxed_in (Open ∷ places) (b ∷ pending) (suc k) h all inside = boxed_in places pending k h all.1 (omega (arith, inside))
  boxed_in (Held who ∷ places) (b ∷ pending) (suc k) h all inside = boxed_in places pending k h all.1 (omega (arith, inside))

  -- the box that is handed out
  pub best_in : (s : BoardState) (k : ℕ) → IsSound s → BoxIn s.root root → best_place s ≡ Some k → BoxIn (box_at s k) root
  best_in s k sound box best =
      let within = (best_place_open s k best).0 in
      boxed_in s.places (s.root ∷ []) k sound.stands (box, tt) (omega (arith, within, length-boxed s.places (s.root ∷ []) sound.stands))
