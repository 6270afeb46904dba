use Rattle.std.proofs.Common.{sym, ap, ◌∙◌, subst, List}
use Rattle.qf_lin.specs.declared.step.Step.{Step}
use Rattle.qf_lin.specs.Steps.{ends_empty}
use Rattle.qf_trail.specs.Trails.{Marked}
use Rattle.qf_probe.specs.Probes.{Closes}
use Rattle.qf_probe.proofs.Closing.{closes_is_refutation}
use Rattle.qf_probe.proofs.probes.probe.Goals as goal

pub returns-then-branch-clause-refutes : goal.returns-then-branch-clause-refutes
returns-then-branch-clause-refutes c =
    closes_is_refutation c.args.system.now c.args.trail.now.bounds c.closes.new.steps
    (subst (λ (s : List Step). Closes c.args.system.now c.args.trail.now.bounds s c.closes.new.steps) c.new-steps.ensures (c.in_ok-closes.ensures.steps c.if-branch.true))

pub probe_selector-requires-clause-open : goal.probe_selector-requires-clause-open
probe_selector-requires-clause-open c =
    ap (λ (m : Marked). ends_empty c.args.system.now.inequalities m.bounds) c.loop-var.invariant.trail ∙ (sym c.in_ok-closes.ensures.closed ∙ c.if-branch.false)
