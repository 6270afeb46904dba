use Rattle.std.proofs.Common.{◌≡◌, ap, arith, subst, slice_get, Some, ◌-◌, drop, ◌∙◌}
use Rattle.std.proofs.lemmas.Int.{ints}
use Rattle.qf_base.specs.Values.{Bounds}
use Rattle.qf_base.proofs.Integers.{int_lt_no}
use Rattle.qf_lin.specs.Inequalities.{is_empty}
use Rattle.qf_prop.proofs.Derivations.{is_empty-taken}
use Rattle.qf_probe.proofs.Replays.{fits_taken, step_exists, takes_more}
use Rattle.qf_probe.proofs.replay.take_tight_steps.Goals as goal

pub apply_step-requires : goal.apply_step-requires
apply_step-requires c = record {
  fit = (fits_taken c.args.system.now c.args.bounds.now c.loop-at.bounds (drop c.args.from c.args.steps.now) (drop c.loop-at.at c.args.steps.now) c.loop-at.invariant.taken c.requires.fits).usable c.loop-at.invariant.nonempty;
}

pub returns-then-high-low : goal.returns-then-high-low
returns-then-high-low c =
    let system = c.args.system.now in
    let facts = step_exists system c.loop-at.bounds c.apply_step.new.bounds c.in-Tight.inequality c.in-Tight.var c.in-Tight.bound _ c.in-Tight.is c.if-not-apply_step.ensures.right c.if-not-apply_step.ensures.bounds in
    takes_more system c.args.bounds.now c.loop-at.bounds c.apply_step.new.bounds c.args.steps.now c.args.from c.loop-at.at c.in-Tight.inequality c.in-Tight.var c.in-Tight.bound _ c.loop-at-test.true c.in-Tight.is facts.3 facts.2 c.loop-at.invariant.taken

pub loop-at-preserved : goal.loop-at-preserved
loop-at-preserved c =
    let system = c.args.system.now in
    let facts = step_exists system c.loop-at.bounds c.apply_step.new.bounds c.in-Tight.inequality c.in-Tight.var c.in-Tight.bound _ c.in-Tight.is c.if-not-apply_step.ensures.right c.if-not-apply_step.ensures.bounds in
    let at = subst (λ (b : Bounds). slice_get b (c.in-Tight.var - 1) ≡ Some c.get-low.result) facts.2 c.get-low.ensures in
    let crossing = is_empty-taken c.loop-at.bounds c.in-Tight.var c.in-Tight.bound c.get-low.result facts.0 facts.1 c.loop-at.invariant.nonempty at in
    record {
      taken = takes_more system c.args.bounds.now c.loop-at.bounds c.apply_step.new.bounds c.args.steps.now c.args.from c.loop-at.at c.in-Tight.inequality c.in-Tight.var c.in-Tight.bound _ c.loop-at-test.true c.in-Tight.is facts.3 facts.2 c.loop-at.invariant.taken;
      nonempty = ap is_empty facts.2 ∙ (crossing ∙ int_lt_no c.get-low.result.1 c.get-low.result.0 (omega (arith, ints, c.if-high-low.false)));
    }
