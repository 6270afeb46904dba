use Rattle.std.proofs.Common.{pos, ◌≤◌, ◌+◌, length, drop, arith, rules, sym, subst, ◌∙◌, ap}
use Rattle.qf_base.specs.declared.names.Bound.TheVariants.{Low, High}
use Rattle.qf_base.specs.Values.{Bounds}
use Rattle.qf_lin.specs.Inequalities.{with_bound}
use Rattle.qf_tree.specs.Refutations.{Refutes}
use Rattle.qf_prop.specs.Sweeps.{Fits}
use Rattle.qf_prop.proofs.Derivations.{fits_step}
use Rattle.qf_probe.proofs.Replays.{fits_taken, ends_here, splits_here, found_by, selector_exists}
use Rattle.qf_probe.proofs.replay.+replay.Goals as goal

pub take_bound-requires-clause-first : goal.take_bound-requires-clause-first
take_bound-requires-clause-first t c =
    let system = c.args.system.now in
    let bounds = c.take_tight_steps-at.new.bounds in
    let fits = fits_taken system c.args.bounds.now bounds (drop c.args.from c.args.steps.now) (drop c.take_tight_steps-at.result c.args.steps.now) c.take_tight_steps-at.ensures c.requires.fits in
    (selector_exists system bounds c.in-Case.var fits (c.is_selector.ensures c.if-not-is_selector.false)).0

pub take_bound-requires-clause-last : goal.take_bound-requires-clause-last
take_bound-requires-clause-last t c =
    let system = c.args.system.now in
    let bounds = c.take_tight_steps-at.new.bounds in
    let fits = fits_taken system c.args.bounds.now bounds (drop c.args.from c.args.steps.now) (drop c.take_tight_steps-at.result c.args.steps.now) c.take_tight_steps-at.ensures c.requires.fits in
    (selector_exists system bounds c.in-Case.var fits (c.is_selector.ensures c.if-not-is_selector.false)).1

pub replay-requires : goal.replay-requires
replay-requires t c =
    let system = c.args.system.now in
    let bounds = c.take_tight_steps-at.new.bounds in
    let var = c.in-Case.var in
    let fits = fits_taken system c.args.bounds.now bounds (drop c.args.from c.args.steps.now) (drop c.take_tight_steps-at.result c.args.steps.now) c.take_tight_steps-at.ensures c.requires.fits in
    let exists = selector_exists system bounds var fits (c.is_selector.ensures c.if-not-is_selector.false) in
    let nonempty = sym c.is_empty-else-depth-ge8.ensures ∙ c.if-is_empty-2.false in
    (search rules, (subst (Fits system) (sym c.take_bound.ensures) (fits_step system bounds var (High (pos 0)) nonempty exists.0 exists.1 fits), (omega arith, omega arith)))

pub take_bound-requires-in-Case-clause-first : goal.take_bound-requires-in-Case-clause-first
take_bound-requires-in-Case-clause-first t c =
    let system = c.args.system.now in
    let bounds = c.take_tight_steps-at.new.bounds in
    let fits = fits_taken system c.args.bounds.now bounds (drop c.args.from c.args.steps.now) (drop c.take_tight_steps-at.result c.args.steps.now) c.take_tight_steps-at.ensures c.requires.fits in
    (selector_exists system bounds c.in-Case.var fits (c.is_selector.ensures c.if-not-is_selector.false)).0

pub take_bound-requires-in-Case-clause-last : goal.take_bound-requires-in-Case-clause-last
take_bound-requires-in-Case-clause-last t c =
    let system = c.args.system.now in
    let bounds = c.take_tight_steps-at.new.bounds in
    let fits = fits_taken system c.args.bounds.now bounds (drop c.args.from c.args.steps.now) (drop c.take_tight_steps-at.result c.args.steps.now) c.take_tight_steps-at.ensures c.requires.fits in
    let exists = selector_exists system bounds c.in-Case.var fits (c.is_selector.ensures c.if-not-is_selector.false) in
    subst (λ (b : Bounds). c.in-Case.var ≤ length b) (sym c.in_ok-other-in-Case.ensures) exists.1

pub replay-requires-in-Case : goal.replay-requires-in-Case
replay-requires-in-Case t c =
    let system = c.args.system.now in
    let bounds = c.take_tight_steps-at.new.bounds in
    let var = c.in-Case.var in
    let fits = fits_taken system c.args.bounds.now bounds (drop c.args.from c.args.steps.now) (drop c.take_tight_steps-at.result c.args.steps.now) c.take_tight_steps-at.ensures c.requires.fits in
    let exists = selector_exists system bounds var fits (c.is_selector.ensures c.if-not-is_selector.false) in
    let nonempty = sym c.is_empty-else-depth-ge8.ensures ∙ c.if-is_empty-2.false in
    let one = c.take_bound-in-Case.ensures ∙ ap (λ (b : Bounds). with_bound b var (Low (pos 1))) c.in_ok-other-in-Case.ensures in
    (search rules, (subst (Fits system) (sym one) (fits_step system bounds var (Low (pos 1)) nonempty exists.0 exists.1 fits), (search rules, omega arith)))

pub returns-then-is_empty-clause-refutes : goal.returns-then-is_empty-clause-refutes
returns-then-is_empty-clause-refutes t c =
    ends_here c.args.system.now c.args.bounds.now c.take_tight_steps-at.new.bounds c.args.depth c.args.steps.now c.args.from c.take_tight_steps-at.result _ c.take_tight_steps-at.ensures c.if-at-steps.false c.in-Empty.is (sym c.is_empty.ensures ∙ c.if-is_empty.true)

pub returns-in-Some-clause-refutes : goal.returns-in-Some-clause-refutes
returns-in-Some-clause-refutes t c =
    let system = c.args.system.now in
    let steps = c.args.steps.now in
    let start = c.args.bounds.now in
    let bounds = c.take_tight_steps-at.new.bounds in
    let var = c.in-Case.var in
    let depth = c.args.depth in
    let from = c.args.from in
    let at = c.take_tight_steps-at.result in
    let middle = c.in-Some.middle in
    let one = c.take_bound-in-Case.ensures ∙ ap (λ (b : Bounds). with_bound b var (Low (pos 1))) c.in_ok-other-in-Case.ensures in
    let zero_case = subst (λ (b : Bounds). Refutes system b (depth + 1) (drop (at + 1) steps) (drop middle steps)) c.take_bound.ensures (rw c.in-Some.is at c.in_ok-middle-in-Case.ensures.refutes) in
    found_by c.replay-in-Case.result
    (λ end. Refutes system c.take_bound-in-Case.new.bounds (depth + 1) (drop middle steps) (drop end steps))
    (λ end. Refutes system start depth (drop from steps) (drop end steps))
    (λ end one_case.
    splits_here system start bounds depth steps from at middle end var _ c.take_tight_steps-at.ensures (omega arith) c.in-Case.is (c.is_selector.ensures c.if-not-is_selector.false) (omega arith) zero_case
    (subst (λ (b : Bounds). Refutes system b (depth + 1) (drop middle steps) (drop end steps)) one one_case))
    c.replay-in-Case.ensures.refutes
