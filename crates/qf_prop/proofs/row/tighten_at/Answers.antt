use Rattle.std.proofs.Common.{sym, ap, arith, ◌∙◌, ◌≡◌, ◌≢◌, subst, pos, rules, w64, SFits, to_z-of_z, slice_get, Some, ◌-◌}
use Rattle.qf_base.specs.Values.{Bounds, interval_of_var}
use Rattle.qf_lin.specs.declared.inequality.Inequality.{Inequality}
use Rattle.qf_lin.specs.Inequalities.{IsProper, factor_of, better_bound, tight_bound, is_better, is_empty}
use Rattle.qf_prop.specs.Sweeps.{row_at}
use Rattle.qf_prop.proofs.Derivations.{leads_none, leads_one, stays_none, better_some, is_empty-taken}
use Rattle.qf_tree.specs.Lines.{StepsFit, is_small_bound}
use Rattle.qf_prop.proofs.SmallBounds.{tight_bound-small, small_step}
use Rattle.qf_prop.proofs.Rows.{row_is, row_fits}
use Rattle.qf_prop.proofs.row.tighten_at.Goals as goal
use Rattle.qf_prop.proofs.row.tighten_at.Goals.{in-Some+in_ok-push-in-Some, in-None}

pub tighten-requires-clause-proper : goal.tighten-requires-clause-proper
tighten-requires-clause-proper c =
    let row = row_is c.args.system.now.inequalities c.args.number c.at-row.result.now (rw c.from.ensures at c.at-row.ensures) in
    let facts = row_fits c.args.system.now c.args.trail.now.bounds c.args.number c.requires.number.0 c.requires.number.1 c.requires.fits in
    subst (λ (r : Inequality). IsProper r.terms) (sym row) facts.1

pub tighten-requires-clause-in_row : goal.tighten-requires-clause-in_row
tighten-requires-clause-in_row c =
    let row = row_is c.args.system.now.inequalities c.args.number c.at-row.result.now (rw c.from.ensures at c.at-row.ensures) in
    subst (λ (r : Inequality). factor_of r.terms c.args.var ≢ pos 0) (sym row) c.requires.in_row.2

pub returns-clause-leads : goal.returns-clause-leads
returns-clause-leads c =
    let row = row_is c.args.system.now.inequalities c.args.number c.at-row.result.now (rw c.from.ensures at c.at-row.ensures) in
    elim c.match-tighten.branch [
      | in-Some+in_ok-push-in-Some w ↦
          let is = w.in-Some.ensures.value ∙ ap (λ (r : Inequality). better_bound r c.bounds.result.now c.args.var) row ∙ ap (λ (b : Bounds). better_bound (row_at c.args.system.now.inequalities c.args.number) b c.args.var) c.bounds.ensures in
          (leads_one c.args.system.now c.args.trail.now c.match-tighten.trail c.args.steps.now c.match-tighten.steps c.args.number c.args.var w.in-Some.bound c.requires.nonempty c.requires.number.0 c.requires.number.1 c.requires.in_row is (w.steps-is ∙ w.in_ok-push-in-Some.ensures.ok) (w.trail-is ∙ w.set.ensures)).0
      | in-None w ↦ rw (w.trail-is, w.steps-is) (leads_none c.args.system.now c.args.trail.now c.args.steps.now)
    ]

pub returns-clause-bounds : goal.returns-clause-bounds
returns-clause-bounds c =
    let row = row_is c.args.system.now.inequalities c.args.number c.at-row.result.now (rw c.from.ensures at c.at-row.ensures) in
    elim c.match-tighten.branch [
      | in-Some+in_ok-push-in-Some w ↦
          let is = w.in-Some.ensures.value ∙ ap (λ (r : Inequality). better_bound r c.bounds.result.now c.args.var) row ∙ ap (λ (b : Bounds). better_bound (row_at c.args.system.now.inequalities c.args.number) b c.args.var) c.bounds.ensures in
          (leads_one c.args.system.now c.args.trail.now c.match-tighten.trail c.args.steps.now c.match-tighten.steps c.args.number c.args.var w.in-Some.bound c.requires.nonempty c.requires.number.0 c.requires.number.1 c.requires.in_row is (w.steps-is ∙ w.in_ok-push-in-Some.ensures.ok) (w.trail-is ∙ w.set.ensures)).1
      | in-None w ↦
          let is = w.in-None.ensures.value ∙ ap (λ (r : Inequality). better_bound r c.bounds.result.now c.args.var) row ∙ ap (λ (b : Bounds). better_bound (row_at c.args.system.now.inequalities c.args.number) b c.args.var) c.bounds.ensures in
          rw w.trail-is (stays_none (row_at c.args.system.now.inequalities c.args.number) c.args.trail.now.bounds c.args.var is)
    ]

pub returns-clause-empty : goal.returns-clause-empty
returns-clause-empty c =
    let low : SFits w64 c.get-low.result.0 = search rules in
    let high : SFits w64 c.get-low.result.1 = search rules in
    let bounds = returns-clause-bounds c in
    let at = subst (λ (b : Bounds). slice_get b (c.args.var - 1) ≡ Some c.get-low.result) bounds c.get-low.ensures in
    rw (to_z-of_z low, to_z-of_z high)
    (sym (ap is_empty bounds ∙ is_empty-taken c.args.trail.now.bounds c.args.var (tight_bound (row_at c.args.system.now.inequalities c.args.number) c.args.trail.now.bounds c.args.var) c.get-low.result c.requires.in_row.0 c.requires.in_row.1 c.requires.nonempty at))

pub returns-clause-spelled : goal.returns-clause-spelled
returns-clause-spelled c = λ fit.
    let row = row_is c.args.system.now.inequalities c.args.number c.at-row.result.now (rw c.from.ensures at c.at-row.ensures) in
    let n = c.args.number in
    let var = c.args.var in
    let system = c.args.system.now in
    let bounds = c.args.trail.now.bounds in
    elim c.match-tighten.branch [
      | in-Some+in_ok-push-in-Some w ↦
          let is = w.in-Some.ensures.value ∙ ap (λ (r : Inequality). better_bound r c.bounds.result.now var) row ∙ ap (λ (b : Bounds). better_bound (row_at system.inequalities n) b var) c.bounds.ensures in
          let tight = (better_some (is_better (tight_bound (row_at system.inequalities n) bounds var) (interval_of_var bounds var)) (tight_bound (row_at system.inequalities n) bounds var) w.in-Some.bound is).1 in
          let facts = row_fits system bounds n c.requires.number.0 c.requires.number.1 c.requires.fits in
          let small = ap is_small_bound tight ∙ tight_bound-small (row_at system.inequalities n) bounds var (facts.2 c.requires.nonempty) c.requires.in_row.2 in
          small_step c.args.steps.now c.match-tighten.steps n var w.in-Some.bound c.requires.number.0 (omega (arith, c.ranges.number.fits)) c.requires.in_row.0 (omega (arith, c.ranges.var.fits)) small (w.steps-is ∙ w.in_ok-push-in-Some.ensures.ok) fit
      | in-None w ↦ subst StepsFit (sym w.steps-is) fit
    ]
