use Rattle.std.proofs.Common.{◌≡◌, ◌∙◌, ap, subst, ℕ, ◌<◌, List, ◌++◌, length, arith}
use Rattle.std.specs.List.{AllByRecursion}
use Rattle.std.proofs.lemmas.List.{drop_more}
use Rattle.qf_ir.specs.declared.ast.Expr.{Expr}
use Rattle.qf_ir.specs.ColumnSets.{has}
use Rattle.qf_impact.specs.Atoms.{expr_atoms}
use Rattle.qf_impact.specs.Sets.{set_at}
use Rattle.qf_impact.proofs.Spreading.{spread_step}
use Rattle.qf_impact.proofs.steps.spread_sets.Goals as goal

pub loop-assignment-preserved : goal.loop-assignment-preserved
loop-assignment-preserved c =
    let opened = drop_more c.args.assignments.now c.loop-assignment.assignment-index c.assignment-item.result c.loop-assignment-test.true in
    let made : c.as_slice.result.now ≡ expr_atoms c.assignment-item.result.1 ++ c.args.filter.now =
    c.as_slice.ensures.value ∙ c.in_ok-extend_from_slice.ensures.items
    ∙ ap (λ items. items ++ c.args.filter.now) (c.in_ok-gather_expr.ensures ∙ ap (λ items. items ++ expr_atoms c.assignment-item.result.1) c.clear.ensures.items) in
    record {
      len = c.spread.ensures.len ∙ c.loop-assignment.invariant.len;
      within = (subst (λ (ss : List (ℕ × Expr)). AllByRecursion (λ (s : ℕ × Expr). s.0 < 32) ss) opened c.loop-assignment.invariant.within).1;
      left = λ k lt place.
          let inside : k < length c.loop-assignment.sets = omega (arith, lt, c.loop-assignment.invariant.len) in
          spread_step c.args.first c.args.assignments.now c.args.filter.now c.args.before.now c.loop-assignment.assignment-index k c.assignment-item.result c.as_slice.result.now c.only_column.result
          (has (set_at c.loop-assignment.sets k) place) (has (set_at c.spread.new.sets k) place) _ place c.loop-assignment-test.true c.assignment-item.is made (c.only_column.ensures place)
          (c.spread.ensures.each k inside place) (c.loop-assignment.invariant.left k lt place);
    }
