-- A box in which the marked parameters keep their intervals and the others have their old constants alone.
use Rattle.std.specs.Prelude.{◌≡◌, ℕ, ◌<◌, ℤ, pos, Bool, List, length, slice_index_or, if◌then◌else◌}
use Rattle.qf_base.specs.Values.{Interval, Bounds, interval_at}
use Rattle.qf_slice.specs.Marks.{mark_at}

abbrev pub sliced_at : List Bool → List ℤ → Bounds → ℕ → Interval
sliced_at marks olds region i =
    if mark_at marks i then interval_at region i else (slice_index_or olds i (pos 0), slice_index_or olds i (pos 0))

pub record IsSlicedBox (marks : List Bool) (olds : List ℤ) (region root : Bounds) : Type 0 where
  pub len : length root ≡ length region
  pub each : (i : ℕ) → i < length region → interval_at root i ≡ sliced_at marks olds region i
