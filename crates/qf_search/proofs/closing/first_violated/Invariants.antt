use Rattle.std.proofs.Common.{◌≡◌, ◌<◌, ◌≤◌, ℕ, false}
use Rattle.qf_search.specs.Closing.{is_violated, row_at}
use Rattle.qf_search.proofs.closing.first_violated.Given as goal

abbrev pub invariant-loop-place : goal.invariant-loop-place
invariant-loop-place l = (k : ℕ) → l.first ≤ k → k < l.place → is_violated l.bounds (row_at l.rows k) ≡ false
