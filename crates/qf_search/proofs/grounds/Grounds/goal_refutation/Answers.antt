use Rattle.std.proofs.Common.{◌≡◌, ◌<◌, ◌^◌, ap, sym, subst, arith, ℕ, false, List}
use Rattle.qf_base.specs.Values.{Bounds}
use Rattle.qf_lin.specs.declared.step.Step.{Step}
use Rattle.qf_ir.specs.declared.cell.Goal.{Goal}
use Rattle.qf_tree.specs.Steps.{RowsFit}
use Rattle.qf_tree.specs.Lines.{StepsFit}
use Rattle.qf_tree.specs.Refutations.{IsRefutation}
use Rattle.qf_search.specs.Closing.{is_violated, row_at, AreSingle, goal_size}
use Rattle.qf_search.proofs.GoalSizes.{goal_within, goal_few, goal_singles, open_for}
use Rattle.qf_search.proofs.Rows.{made_is, refutes_row}
use Rattle.qf_search.proofs.grounds.Grounds.goal_refutation.Goals as goal

pub goal_size-size-requires : goal.goal_size-size-requires
goal_size-size-requires c =
    let g = c.args.self.now in
    let own = c.get-own.result.now in
    let is = made_is g.problem.now g.root c.make.new.self c.args.row own c.in_ok-make.ensures.made c.get-own.ensures in
    subst (λ (x : Goal). goal_size x < 2 ^ 32) (sym c.goal.ensures) (goal_few g.problem.now g.root c.args.row own c.requires.grounds.sound c.requires.exists is)

pub overflow_sub-first : goal.overflow_sub-first
overflow_sub-first c =
    let g = c.args.self.now in
    let own = c.get-own.result.now in
    let is = made_is g.problem.now g.root c.make.new.self c.args.row own c.in_ok-make.ensures.made c.get-own.ensures in
    omega (arith, goal_within g.problem.now g.root c.args.row own c.requires.grounds.sound c.requires.exists is, ap goal_size c.goal.ensures, c.goal_size-size.ensures)

pub closing_step-requires-clause-fit : goal.closing_step-requires-clause-fit
closing_step-requires-clause-fit c =
    let g = c.args.self.now in
    let own = c.get-own.result.now in
    let is = made_is g.problem.now g.root c.make.new.self c.args.row own c.in_ok-make.ensures.made c.get-own.ensures in
    subst (λ (b : Bounds). RowsFit own.system b) (sym c.in_ok-hull.ensures.hull) (is.fits c.args.region.now c.requires.inside)

pub closing_step-requires-clause-single : goal.closing_step-requires-clause-single
closing_step-requires-clause-single c =
    let g = c.args.self.now in
    let own = c.get-own.result.now in
    let is = made_is g.problem.now g.root c.make.new.self c.args.row own c.in_ok-make.ensures.made c.get-own.ensures in
    let size = ap goal_size c.goal.ensures in
    subst (λ (n : ℕ). AreSingle n own.system.inequalities) (omega (arith, size, c.goal_size-size.ensures)) (goal_singles g.problem.now g.root c.args.row own c.requires.grounds.sound c.requires.exists is)

pub returns-in-Some-clause-some : goal.returns-in-Some-clause-some
returns-in-Some-clause-some c =
    let g = c.args.self.now in
    let own = c.get-own.result.now in
    let is = made_is g.problem.now g.root c.make.new.self c.args.row own c.in_ok-make.ensures.made c.get-own.ensures in
    let hull = c.in_ok-hull.hull in
    let refutes = subst (λ (s : List Step). IsRefutation own.system hull s) (sym c.in_ok-refutation_of-in-Some.ensures) c.in-Some.ensures.some in
    let fit = subst StepsFit (sym c.in_ok-refutation_of-in-Some.ensures) c.in-Some.ensures.spelled in
    (refutes_row g c.args.region.now hull c.args.row own c.in_ok-refutation_of-in-Some.field-0 c.requires.grounds c.requires.exists is c.in_ok-hull.ensures.hull refutes, fit)

pub returns-clause-none : goal.returns-clause-none
returns-clause-none c =
    let g = c.args.self.now in
    let own = c.get-own.result.now in
    let is = made_is g.problem.now g.root c.make.new.self c.args.row own c.in_ok-make.ensures.made c.get-own.ensures in
    let size = ap goal_size c.goal.ensures in
    open_for g.problem.now g.root c.args.row own c.requires.grounds.sound c.requires.exists is c.args.region.now (λ place after inside.
    subst (λ (b : Bounds). is_violated b (row_at own.system.inequalities place) ≡ false) c.in_ok-hull.ensures.hull (c.in-None.ensures.none place (omega (arith, after, size, c.goal_size-size.ensures)) inside))
