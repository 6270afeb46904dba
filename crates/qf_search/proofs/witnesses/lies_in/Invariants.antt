use Rattle.std.proofs.Common.{◌≡◌, ◌<◌, ℕ, pos, length, slice_index_or}
use Rattle.qf_base.specs.Values.{IsIn}
use Rattle.qf_search.proofs.witnesses.lies_in.Given as goal

abbrev pub invariant-loop-place : goal.invariant-loop-place
invariant-loop-place l = record {
  len : length l.point ≡ length l.region;
  each : (k : ℕ) → k < l.place → IsIn (slice_index_or l.point k (pos 0)) (slice_index_or l.region k (pos 0, pos 0));
}
