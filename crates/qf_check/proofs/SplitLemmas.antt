-- The boxes to come after a split, and after a half.
use Rattle.std.proofs.Common.{◌≡◌, ◌∙◌, refl, inl, inr, ℕ, ◌-◌, ◌<◌, Bool, true, false, ℤ, pos, ◌+ℤ◌, int_lt, int_le, List, ◌∷◌, length, slice_set, slice_get, arith, length-set, get_or-set_same, get_or-set_other, IsTrue}
use Rattle.std.specs.declared.option.Option.TheVariants.{Some}
use Rattle.std.specs.List.{AllByRecursion}
use Rattle.std.proofs.lemmas.Int.{ints}
use Rattle.std.proofs.lemmas.Bool.{cases_eq, and_parts}
use Rattle.std.proofs.lemmas.List.{set-set}
use Rattle.qf_base.specs.Values.{Interval, Bounds, interval_at}
use Rattle.qf_point.specs.Points.{lower_half, upper_half}
use Rattle.qf_tree.specs.Certificates.{cuts_inside}
use Rattle.qf_encode.specs.Lives.{BoxIn}
use Rattle.qf_system.specs.WidthsKept.{LiesIn}
use Rattle.qf_check.specs.declared.boxes.Frame.{Frame}
use Rattle.qf_check.specs.declared.boxes.Boxes.{Boxes}
use Rattle.qf_check.specs.Splits.{boxes_to_come, boxes_of, IsSplitIn, LieIn}
use Rattle.qf_check.proofs.UndoLemmas.{get-within, get-at, set-back}

-- a box with an interval put that lies in the outer box's
put_in : (region root : Bounds) (at : ℕ) (half : Interval) → BoxIn region root → LiesIn half (interval_at root at) → BoxIn (slice_set region at half) root
put_in region root at half box lies = record {
  same_length = length-set region at half ∙ box.same_length;
  each = λ place inside.
      elim (cases_eq place at) [
        | inl e ↦
            let own = get_or-set_same region at half (pos 0, pos 0) (omega (arith, inside, e, box.same_length)) in
            rw (e, own) lies
        | inr apart ↦
            let other = get_or-set_other region at place half (pos 0, pos 0) apart in
            rw other (box.each place inside)
      ];
}

-- ---- a split

module _ (old : Boxes) (region : Bounds) (frames : List Frame) (param : ℕ) (cut : ℤ) (place : ℕ) (whole : Interval) where
  pub split_boxes : old.is_done ≡ false → place ≡ param - 1 → slice_get old.region place ≡ Some whole → region ≡ lower_half old.region place cut → frames ≡ record { place = place; whole = whole; cut = cut; is_upper = false } ∷ old.frames → boxes_of (record { region = region; frames = frames; is_done = old.is_done }) ≡ lower_half old.region (param - 1) cut ∷ upper_half old.region (param - 1) cut ∷ boxes_to_come old.region old.frames
  split_boxes there p g r f =
      let at = get-at old.region place whole g in
      let half : Interval = ((interval_at old.region place).0, cut) in
      let back = set-back old.region place half whole at in
      rw (there, f, r, back, ← p) refl

  pub split_lies : (root : Bounds) → IsTrue (cuts_inside old.region param cut) → place ≡ param - 1 → slice_get old.region place ≡ Some whole → region ≡ lower_half old.region place cut → frames ≡ record { place = place; whole = whole; cut = cut; is_upper = false } ∷ old.frames → LieIn root old → LieIn root (record { region = region; frames = frames; is_done = old.is_done })
  split_lies root inside p g r f lies =
      let at = get-at old.region place whole g in
      let test = rw (← p, at) at inside in
      let parts = and_parts (int_le whole.0 cut) (int_lt cut whole.1) test in
      let own = rw at at (lies.region.each place (omega (arith, get-within old.region place whole g, lies.region.same_length))) in
      let low = own.0 in
      let high = own.1.1 in
      let half : LiesIn (whole.0, cut) (interval_at root place) = (low, (omega (arith, ints, parts.0), omega (arith, ints, parts.1, high))) in
      record {
        region = rw (r, at) (put_in old.region root place (whole.0, cut) lies.region half);
        frames = rw f (
          record {
            place = omega (arith, get-within old.region place whole g, lies.region.same_length);
            low = low;
            cut_low = omega (arith, ints, parts.0);
            cut_high = omega (arith, ints, parts.1);
            high = high;
          },
          lies.frames,
        );
      }

-- ---- the next box

frame_of : (root : Bounds) (old : Boxes) (frame : Frame) (rest : List Frame) → old.frames ≡ frame ∷ rest → LieIn root old → IsSplitIn root frame × AllByRecursion (IsSplitIn root) rest
frame_of root old frame rest e lies = rw e at lies.frames

-- the upper half is the next box
module _ (root : Bounds) (old new : Boxes) (frame : Frame) (rest : List Frame) (e : old.frames ≡ frame ∷ rest) (lies : LieIn root old)
    (r : new.region ≡ slice_set old.region frame.place (frame.cut +ℤ pos 1, frame.whole.1)) (f : new.frames ≡ record frame { is_upper = true } ∷ rest) where
  pub upper_boxes : frame.is_upper ≡ false → old.is_done ≡ false → new.is_done ≡ old.is_done → boxes_of new ≡ boxes_to_come old.region old.frames
  upper_boxes lower there same =
      let parts = frame_of root old frame rest e lies in
      let within : frame.place < length old.region = omega (arith, parts.0.place, lies.region.same_length) in
      let half : Interval = (frame.cut +ℤ pos 1, frame.whole.1) in
      let own = get_or-set_same old.region frame.place frame.whole (pos 0, pos 0) within in
      let joined = set-set old.region frame.place half frame.whole in
      let again = set-set old.region frame.place frame.whole half in
      rw (same, there, f, r, joined, e, lower, own, again) refl

  pub upper_lies : LieIn root new
  upper_lies =
      let parts = frame_of root old frame rest e lies in
      let split = parts.0 in
      let low = split.low in
      let high = split.high in
      let cut_low = split.cut_low in
      let cut_high = split.cut_high in
      let half : LiesIn (frame.cut +ℤ pos 1, frame.whole.1) (interval_at root frame.place) = (omega (arith, ints), (omega (arith, ints), high)) in
      record {
        region = rw r (put_in old.region root frame.place (frame.cut +ℤ pos 1, frame.whole.1) lies.region half);
        frames = rw f (record { place = split.place; low = low; cut_low = cut_low; cut_high = cut_high; high = high }, parts.1);
      }

-- after an upper half the whole box is done
module _ (old : Boxes) (region : Bounds) (frame : Frame) (rest : List Frame) (e : old.frames ≡ frame ∷ rest) (r : region ≡ slice_set old.region frame.place frame.whole) where
  pub rejoined_boxes : frame.is_upper ≡ true → boxes_to_come region rest ≡ boxes_to_come old.region old.frames
  rejoined_boxes upper = rw (r, e, upper) refl

  pub rejoined_lies : (root : Bounds) (is_done : Bool) → LieIn root old → LieIn root (record { region = region; frames = rest; is_done = is_done })
  rejoined_lies root is_done lies =
      let parts = frame_of root old frame rest e lies in
      let split = parts.0 in
      let low = split.low in
      let high = split.high in
      let cut_low = split.cut_low in
      let cut_high = split.cut_high in
      let whole : LiesIn frame.whole (interval_at root frame.place) = (low, (omega (arith, ints), high)) in
      record { region = rw r (put_in old.region root frame.place frame.whole lies.region whole); frames = parts.1 }
