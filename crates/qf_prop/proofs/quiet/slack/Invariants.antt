use Rattle.std.proofs.Common.{◌≡◌, ◌+◌, ◌≤◌, ◌^◌, ◌+ℤ◌, drop, sum_by, unsigned_abs}
use Rattle.qf_lin.specs.Inequalities.{greatest, largest_size}
use Rattle.qf_prop.proofs.quiet.slack.Given as goal

abbrev pub invariant-loop-term : goal.invariant-loop-term
invariant-loop-term l = record {
  value : (l.sum +ℤ greatest (drop l.term-index l.terms) l.bounds) ≡ greatest l.terms l.bounds;
  size : unsigned_abs l.sum + sum_by (largest_size l.bounds) (drop l.term-index l.terms) ≤ 2 ^ 58;
}
