use Rattle.std.proofs.Common.{◌∙◌, ◌≡◌, sym, ap, arith, false, ◌-◌, ◌+◌}
use Rattle.qf_base.specs.Values.{Bounds}
use Rattle.qf_lin.specs.Inequalities.{is_empty}
use Rattle.qf_prop.proofs.Derivations.{leads_then, fits_after}
use Rattle.qf_probe.proofs.FourSweeps.{swept_times, one_less, none_left, not_true, times_same, empty_stays, no_steps_stay}
use Rattle.qf_probe.proofs.close.sweep_four.Goals as goal

pub sweep-requires : goal.sweep-requires
sweep-requires c =
    fits_after c.args.system.now c.loop-turn.invariant.leads.0 c.args.trail.now.bounds c.loop-turn.trail.bounds c.loop-turn.invariant.leads.2 c.requires

pub returns-in_err-swept-clause-leads : goal.returns-in_err-swept-clause-leads
returns-in_err-swept-clause-leads c =
    leads_then c.args.system.now c.args.trail.now c.loop-turn.trail c.sweep.new.trail c.args.steps.now c.loop-turn.steps c.sweep.new.steps c.loop-turn.invariant.leads c.sweep.ensures.leads

pub returns-in_err-swept-clause-spelled : goal.returns-in_err-swept-clause-spelled
returns-in_err-swept-clause-spelled c = λ fit. c.sweep.ensures.spelled (c.loop-turn.invariant.spelled fit)

pub returns-in-Empty-clause-leads : goal.returns-in-Empty-clause-leads
returns-in-Empty-clause-leads c =
    leads_then c.args.system.now c.args.trail.now c.loop-turn.trail c.sweep.new.trail c.args.steps.now c.loop-turn.steps c.sweep.new.steps c.loop-turn.invariant.leads c.sweep.ensures.leads

pub returns-in-Empty-clause-spelled : goal.returns-in-Empty-clause-spelled
returns-in-Empty-clause-spelled c = λ fit. c.sweep.ensures.spelled (c.loop-turn.invariant.spelled fit)

pub returns-in-Empty-clause-closed : goal.returns-in-Empty-clause-closed
returns-in-Empty-clause-closed c =
    let rows = c.args.system.now.inequalities in
    let n = c.loop-turn._turn in
    let here = c.in_ok-swept.ensures.bounds in
    let empty = c.in_ok-swept.ensures.empty.0 c.in-Empty.is in
    sym (c.loop-turn.invariant.to_come
    ∙ (ap is_empty (one_less n rows c.loop-turn.trail.bounds c.loop-turn-test.true)
    ∙ (ap (λ (b : Bounds). is_empty (swept_times (4 - (n + 1)) rows b)) (sym here) ∙ empty_stays (4 - (n + 1)) rows c.sweep.new.trail.bounds empty)))

pub returns-then-len-before-clause-leads : goal.returns-then-len-before-clause-leads
returns-then-len-before-clause-leads c =
    leads_then c.args.system.now c.args.trail.now c.loop-turn.trail c.sweep.new.trail c.args.steps.now c.loop-turn.steps c.sweep.new.steps c.loop-turn.invariant.leads c.sweep.ensures.leads

pub returns-then-len-before-clause-spelled : goal.returns-then-len-before-clause-spelled
returns-then-len-before-clause-spelled c = λ fit. c.sweep.ensures.spelled (c.loop-turn.invariant.spelled fit)

pub returns-then-len-before-clause-closed : goal.returns-then-len-before-clause-closed
returns-then-len-before-clause-closed c =
    let rows = c.args.system.now.inequalities in
    let before = c.loop-turn.trail.bounds in
    let nonempty : is_empty c.sweep.new.trail.bounds ≡ false = not_true (is_empty c.sweep.new.trail.bounds) (λ e. c.in_default.not-Empty (c.in_ok-swept.ensures.empty.1 e)) in
    let same = no_steps_stay c.args.system.now c.loop-turn.trail c.sweep.new.trail c.loop-turn.steps c.sweep.new.steps c.sweep.ensures.leads (omega (arith, c.if-len-before.true, c.len.ensures, c.len-before.ensures)) in
    sym (c.loop-turn.invariant.to_come
    ∙ (ap is_empty (times_same (4 - c.loop-turn._turn) rows before (sym c.in_ok-swept.ensures.bounds ∙ same))
    ∙ (ap is_empty (sym same) ∙ nonempty)))

pub loop-turn-preserved : goal.loop-turn-preserved
loop-turn-preserved c =
    let rows = c.args.system.now.inequalities in
    let n = c.loop-turn._turn in
    record {
      leads = leads_then c.args.system.now c.args.trail.now c.loop-turn.trail c.sweep.new.trail c.args.steps.now c.loop-turn.steps c.sweep.new.steps c.loop-turn.invariant.leads c.sweep.ensures.leads;
      to_come = c.loop-turn.invariant.to_come
          ∙ (ap is_empty (one_less n rows c.loop-turn.trail.bounds c.loop-turn-test.true)
          ∙ ap (λ (b : Bounds). is_empty (swept_times (4 - (n + 1)) rows b)) (sym c.in_ok-swept.ensures.bounds));
      nonempty = λ _. not_true (is_empty c.sweep.new.trail.bounds) (λ e. c.in_default.not-Empty (c.in_ok-swept.ensures.empty.1 e));
      spelled = λ fit. c.sweep.ensures.spelled (c.loop-turn.invariant.spelled fit);
    }

pub returns-clause-leads : goal.returns-clause-leads
returns-clause-leads c = c.loop-turn.invariant.leads

pub returns-clause-spelled : goal.returns-clause-spelled
returns-clause-spelled c = c.loop-turn.invariant.spelled

pub returns-clause-ended : goal.returns-clause-ended
returns-clause-ended c = sym (c.loop-turn.invariant.nonempty (omega arith))

pub returns-clause-closed : goal.returns-clause-closed
returns-clause-closed c =
    sym (c.loop-turn.invariant.to_come
    ∙ (ap is_empty (none_left c.loop-turn._turn c.args.system.now.inequalities c.loop-turn.trail.bounds c.loop-turn-test.false) ∙ c.loop-turn.invariant.nonempty (omega arith)))
