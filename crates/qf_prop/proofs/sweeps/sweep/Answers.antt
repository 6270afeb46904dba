use Rattle.std.proofs.Common.{sym, ap, ◌∙◌, arith, ◌+◌, ◌++◌, reverse, ℕ}
use Rattle.qf_lin.specs.Inequalities.{is_empty, row_swept}
use Rattle.qf_prop.specs.Sweeps.{row_at, number_at}
use Rattle.qf_prop.proofs.Derivations.{leads_then, fits_after}
use Rattle.qf_prop.proofs.Rows.{fold_rows_stay, row_more, sweep_ended}
use Rattle.qf_prop.proofs.sweeps.sweep.Goals as goal

pub returns-then-is_empty-clause-bounds : goal.returns-then-is_empty-clause-bounds
returns-then-is_empty-clause-bounds c =
    let rows = c.args.system.now.inequalities in
    sym (fold_rows_stay (rows ++ reverse rows) c.args.trail.now.bounds (ap is_empty (sym c.bounds.ensures) ∙ sym c.if-is_empty.ensures))

pub sweep_row-requires-clause-fits : goal.sweep_row-requires-clause-fits
sweep_row-requires-clause-fits c =
    fits_after c.args.system.now c.loop-turn.invariant.leads.0 c.args.trail.now.bounds c.loop-turn.trail.bounds c.loop-turn.invariant.leads.2 c.requires

pub returns-in_err-sweep_row-clause-leads : goal.returns-in_err-sweep_row-clause-leads
returns-in_err-sweep_row-clause-leads c =
    leads_then c.args.system.now c.args.trail.now c.loop-turn.trail c.sweep_row.new.trail c.args.steps.now c.loop-turn.steps c.sweep_row.new.steps c.loop-turn.invariant.leads c.sweep_row.ensures.leads

pub returns-then-branch-clause-leads : goal.returns-then-branch-clause-leads
returns-then-branch-clause-leads c =
    leads_then c.args.system.now c.args.trail.now c.loop-turn.trail c.sweep_row.new.trail c.args.steps.now c.loop-turn.steps c.sweep_row.new.steps c.loop-turn.invariant.leads c.sweep_row.ensures.leads

pub returns-then-branch-clause-bounds : goal.returns-then-branch-clause-bounds
returns-then-branch-clause-bounds c =
    let rows = c.args.system.now.inequalities in
    let k = c.loop-turn.turn in
    let number = c.number_at.ensures.value ∙ ap (number_at k) c.len-rows.ensures in
    let here = c.in_ok-sweep_row.ensures.bounds ∙ ap (λ (n : ℕ). row_swept c.loop-turn.trail.bounds (row_at rows n)) number in
    let more = row_more rows c.args.trail.now.bounds c.loop-turn.trail.bounds c.sweep_row.new.trail.bounds k (omega (arith, c.loop-turn-test.true, c.len-rows.ensures)) c.loop-turn.invariant.so_far here in
    sweep_ended rows c.args.trail.now.bounds c.sweep_row.new.trail.bounds (k + 1) more (sym c.in_ok-sweep_row.ensures.empty ∙ c.if-branch.true)

pub loop-turn-preserved : goal.loop-turn-preserved
loop-turn-preserved c =
    let rows = c.args.system.now.inequalities in
    let k = c.loop-turn.turn in
    let number = c.number_at.ensures.value ∙ ap (number_at k) c.len-rows.ensures in
    let here = c.in_ok-sweep_row.ensures.bounds ∙ ap (λ (n : ℕ). row_swept c.loop-turn.trail.bounds (row_at rows n)) number in
    record {
      leads = leads_then c.args.system.now c.args.trail.now c.loop-turn.trail c.sweep_row.new.trail c.args.steps.now c.loop-turn.steps c.sweep_row.new.steps c.loop-turn.invariant.leads c.sweep_row.ensures.leads;
      so_far = row_more rows c.args.trail.now.bounds c.loop-turn.trail.bounds c.sweep_row.new.trail.bounds k (omega (arith, c.loop-turn-test.true, c.len-rows.ensures)) c.loop-turn.invariant.so_far here;
      spelled = λ fit. c.sweep_row.ensures.spelled (c.loop-turn.invariant.spelled fit);
      nonempty = sym c.in_ok-sweep_row.ensures.empty ∙ c.if-branch.false;
    }

pub returns-in_err-sweep_row-clause-spelled : goal.returns-in_err-sweep_row-clause-spelled
returns-in_err-sweep_row-clause-spelled c = λ fit. c.sweep_row.ensures.spelled (c.loop-turn.invariant.spelled fit)

pub returns-then-branch-clause-spelled : goal.returns-then-branch-clause-spelled
returns-then-branch-clause-spelled c = λ fit. c.sweep_row.ensures.spelled (c.loop-turn.invariant.spelled fit)

pub returns-clause-spelled : goal.returns-clause-spelled
returns-clause-spelled c = c.loop-turn.invariant.spelled
