use Rattle.std.proofs.Common.{◌≡◌, ℕ, ◌<◌, false, get_or, pos}
use Rattle.qf_base.specs.Values.{interval_of_var}
use Rattle.qf_lin.specs.Inequalities.{is_better, tight_bound}
use Rattle.qf_prop.proofs.quiet.is_quiet.Given as goal

abbrev pub invariant-loop-term : goal.invariant-loop-term
invariant-loop-term l =
    (k : ℕ) → k < l.term-index → is_better (tight_bound l.row l.bounds (get_or l.terms k (pos 0, 0)).1) (interval_of_var l.bounds (get_or l.terms k (pos 0, 0)).1) ≡ false
