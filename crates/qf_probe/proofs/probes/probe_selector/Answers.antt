use Rattle.std.proofs.Common.{◌≤ℤ◌, sym, pos, ◌-◌, arith, ap, ◌∙◌, ◌≡◌, subst, List, [], ◌∷◌, ◌++◌, true, rules}
use Rattle.qf_lin.specs.declared.step.Step.{Step}
use Rattle.qf_lin.specs.declared.step.Step.TheVariants.{Case}
use Rattle.qf_lin.specs.Steps.{case_zero, case_one}
use Rattle.qf_trail.specs.Trails.{Marked}
use Rattle.qf_probe.specs.Probes.{Closes}
use Rattle.qf_probe.proofs.Closing.{cases_are_refutation, nonempty_of, one_open, zero_open}
use Rattle.qf_base.specs.Values.{Interval}
use Rattle.std.proofs.lemmas.Int.{ints}
use Rattle.std.proofs.lemmas.Option.{get_or_from_slice_get}
use Rattle.qf_lin.specs.Inequalities.{is_empty}
use Rattle.qf_probe.proofs.probes.probe_selector.Goals as goal
use Rattle.qf_probe.proofs.probes.probe_selector.Goals.{then-low-ge1-via-then-low-ge1, then-low-ge1-via-else-low-ge1+then-high-le0}

pub returns-clause-refutes : goal.returns-clause-refutes
returns-clause-refutes c =
    let system = c.args.system.now in
    let bounds = c.args.trail.now.bounds in
    let middle = c.closes_case.new.steps in
    let steps = c.closes_case-2.new.steps in
    let first : c.in_ok-closes_case.field-0 ≡ true = search rules in
    let second : c.in_ok-closes_case-2.field-0 ≡ true = search rules in
    let pushed = c.in_ok-push.ensures.ok ∙ ap (λ (s : List Step). s ++ Case c.args.var ∷ []) c.new-steps.ensures in
    let zero_case = subst (λ (s : List Step). Closes system (case_zero bounds c.args.var) s middle) pushed (c.in_ok-closes_case.ensures.steps first) in
    let one_case = subst (λ (m : Marked). Closes system (case_one m.bounds c.args.var) middle steps) c.closes_case.ensures.trail (c.in_ok-closes_case-2.ensures.steps second) in
    cases_are_refutation system bounds c.args.var middle steps c.requires.selector zero_case one_case

pub closes_case-requires-clause-nonempty : goal.closes_case-requires-clause-nonempty
closes_case-requires-clause-nonempty c = nonempty_of c.args.system.now.inequalities c.args.trail.now.bounds c.requires.open

pub closes_case-requires-2-clause-nonempty : goal.closes_case-requires-2-clause-nonempty
closes_case-requires-2-clause-nonempty c =
    ap (λ (m : Marked). is_empty m.bounds) c.closes_case.ensures.trail ∙ nonempty_of c.args.system.now.inequalities c.args.trail.now.bounds c.requires.open

pub returns-then-low-ge1-clause-none : goal.returns-then-low-ge1-clause-none
returns-then-low-ge1-clause-none c = λ _.
    let rows = c.args.system.now.inequalities in
    let bounds = c.args.trail.now.bounds in
    let at = get_or_from_slice_get bounds (c.args.var - 1) c.get-low.result (pos 0, pos 0) c.get-low.ensures in
    elim c.then-low-ge1.branch [
      | then-low-ge1-via-then-low-ge1 w ↦
          let least : pos 1 ≤ℤ c.get-low.result.0 = omega (arith, ints, w.if-low-ge1.true) in
          one_open rows bounds c.args.var c.requires.open (subst (λ (i : Interval). pos 1 ≤ℤ i.0) (sym at) least)
      | then-low-ge1-via-else-low-ge1+then-high-le0 w ↦
          let most : c.get-low.result.1 ≤ℤ pos 0 = omega (arith, ints, w.if-high-le0.true) in
          zero_open rows bounds c.args.var c.requires.open (subst (λ (i : Interval). i.1 ≤ℤ pos 0) (sym at) most)
    ]
