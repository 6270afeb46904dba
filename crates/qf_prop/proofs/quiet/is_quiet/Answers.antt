use Rattle.std.proofs.Common.{◌∙◌, ◌≡◌, ap, sym, subst, pos, get_or, below_more, arith, length, ◌<◌, false, List, ◌≤ℤ◌, ◌-ℤ◌}
use Rattle.std.proofs.lemmas.Int.{ints}
use Rattle.qf_base.specs.Values.{Term, interval_of_var}
use Rattle.qf_lin.specs.Inequalities.{greatest, greatest_term, tight_bound, is_better}
use Rattle.qf_prop.specs.Sweeps.{least_term}
use Rattle.qf_prop.proofs.QuietRows.{quiet_term, quiet_terms}
use Rattle.qf_prop.proofs.quiet.is_quiet.Goals as goal

pub loop-term-preserved : goal.loop-term-preserved
loop-term-preserved c =
    let row = c.args.row.now in
    let bounds = c.args.bounds.now in
    let terms = c.as_slice-terms.ensures in
    let i = c.loop-term.term-index in
    let within : i < length row.terms = omega (arith, ap length terms, c.loop-term-test.true) in
    let least = c.ends-least.ensures.least ∙ ap (λ (ts : List Term). least_term bounds (get_or ts i (pos 0, 0))) terms in
    let most = c.ends-least.ensures.greatest ∙ ap (λ (ts : List Term). greatest_term bounds (get_or ts i (pos 0, 0))) terms in
    let room : (c.ends-least.result.1 -ℤ c.ends-least.result.0) ≤ℤ c.slack-slack.result =
    omega (arith, ints, c.slack-slack.ensures.size, c.ends-least.ensures.least_size, c.ends-least.ensures.greatest_small, c.if-greatest-least.false)
    in
    let enough : (greatest_term bounds (get_or row.terms i (pos 0, 0)) -ℤ least_term bounds (get_or row.terms i (pos 0, 0))) ≤ℤ (greatest row.terms bounds -ℤ row.least) =
    rw (most, least, c.slack-slack.ensures.value) at room
    in
    let here = quiet_term row bounds i (pos 0, 0) c.requires.proper within enough in
    below_more _ _ c.loop-term.invariant
    (subst (λ (ts : List Term). is_better (tight_bound row bounds (get_or ts i (pos 0, 0)).1) (interval_of_var bounds (get_or ts i (pos 0, 0)).1) ≡ false) (sym terms) here)

pub returns : goal.returns
returns c = λ _.
    let row = c.args.row.now in
    let bounds = c.args.bounds.now in
    let terms = c.as_slice-terms.ensures in
    quiet_terms row bounds row.terms c.requires.nonempty
    (λ k within.
    let inside : k < c.loop-term.term-index = omega (arith, ap length terms, c.loop-term-test.false) in
    subst (λ (ts : List Term). is_better (tight_bound row bounds (get_or ts k (pos 0, 0)).1) (interval_of_var bounds (get_or ts k (pos 0, 0)).1) ≡ false) terms (c.loop-term.invariant k inside))
