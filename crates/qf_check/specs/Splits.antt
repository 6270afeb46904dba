-- The boxes of a tree that are still to come, told from the box at hand and the splits that led to it.
use Rattle.std.specs.Prelude.{◌<◌, ◌≤ℤ◌, ◌<ℤ◌, Bool, true, false, List, [], ◌∷◌, length, slice_set}
use Rattle.std.specs.List.{AllByRecursion}
use Rattle.qf_base.specs.Values.{Bounds, interval_at}
use Rattle.qf_point.specs.Points.{upper_half}
use Rattle.qf_encode.specs.Lives.{BoxIn}
use Rattle.qf_check.specs.declared.boxes.Frame.{Frame}
use Rattle.qf_check.specs.declared.boxes.Boxes.{Boxes}

-- the box before a split
abbrev pub rejoined : Bounds → Frame → Bounds
rejoined region frame = slice_set region frame.place frame.whole

-- in its lower half the upper one is still to come
abbrev pub with_upper : Bool → Bounds → Frame → List Bounds → List Bounds
with_upper true region frame later = later
with_upper false region frame later = upper_half region frame.place frame.cut ∷ later

-- the boxes that are still to come, where these splits, the last one first, led to the box
abbrev pub boxes_to_come : Bounds → List Frame → List Bounds
boxes_to_come region [] = []
boxes_to_come region (frame ∷ frames) =
    with_upper frame.is_upper (rejoined region frame) frame (boxes_to_come (rejoined region frame) frames)

abbrev pub boxes_unless : Bool → Bounds → List Frame → List Bounds
boxes_unless true region frames = []
boxes_unless false region frames = region ∷ boxes_to_come region frames

-- the box at hand and those to come
abbrev pub boxes_of : Boxes → List Bounds
boxes_of b = boxes_unless b.is_done b.region b.frames

-- a split of an interval within a box
pub record IsSplitIn (root : Bounds) (frame : Frame) : Type 0 where
  pub place : frame.place < length root
  pub low : (interval_at root frame.place).0 ≤ℤ frame.whole.0
  pub cut_low : frame.whole.0 ≤ℤ frame.cut
  pub cut_high : frame.cut <ℤ frame.whole.1
  pub high : frame.whole.1 ≤ℤ (interval_at root frame.place).1

-- the box at hand and its splits lie in a box
pub record LieIn (root : Bounds) (b : Boxes) : Type 0 where
  pub region : BoxIn b.region root
  pub frames : AllByRecursion (IsSplitIn root) b.frames
