use Rattle.std.proofs.Common.{◌≡◌, ℕ, ◌+◌, ◌≤◌, length, slice_index_or}
use Rattle.qf_encode.proofs.maker.reach.Given as goal

abbrev pub invariant-loop : goal.invariant-loop
invariant-loop l = record {
  same : (k : ℕ) → slice_index_or l.numbers k 0 ≡ slice_index_or l.fn.numbers k 0;
  grown : l.counter ≤ length l.numbers;
  end : l.end ≡ l.place + 1;
}
