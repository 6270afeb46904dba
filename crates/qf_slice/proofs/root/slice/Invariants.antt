use Rattle.std.proofs.Common.{◌≡◌, ℕ, ◌<◌, ◌≤◌, length}
use Rattle.qf_base.specs.Values.{interval_at}
use Rattle.qf_slice.specs.Sliced.{sliced_at}
use Rattle.qf_slice.proofs.root.slice.Given as goal

abbrev pub invariant-loop-i : goal.invariant-loop-i
invariant-loop-i l = record {
  len : length l.region ≡ length l.fn.region;
  below : (k : ℕ) → k < l.i → interval_at l.region k ≡ sliced_at l.marks l.olds l.fn.region k;
  above : (k : ℕ) → l.i ≤ k → interval_at l.region k ≡ interval_at l.fn.region k;
}
