use Rattle.std.proofs.Common.{◌∙◌, ◌+◌, ℕ, map, drop, sym}
use Rattle.qf_ir.specs.declared.ast.Expr.{Expr}
use Rattle.qf_ir.specs.Flow.{At}
use Rattle.qf_ir.proofs.Repeats.{walks-start, walks-found, walks-more, column-next, columns-more, firsts-next}
use Rattle.qf_ir.proofs.making.faults.sets_repeat.Goals as goal

pub loop-set-init : goal.loop-set-init
loop-set-init c = (walks-start _ _ (λ column. c.new-seen.ensures (At column)), c.requires)

pub returns-then-has : goal.returns-then-has
returns-then-has c =
    let next = firsts-next c.args.sets.now c.loop-set.set-index c.set-item.result c.loop-set-test.true c.set-item.is in
    walks-found _ _ _ _ (rw next at c.loop-set.invariant.0) (sym c.has.ensures ∙ c.if-has.true)

pub add-requires : goal.add-requires
add-requires c =
    let next = firsts-next c.args.sets.now c.loop-set.set-index c.set-item.result c.loop-set-test.true c.set-item.is in
    column-next 32 c.set-item.result.0 (map (λ (s : ℕ × Expr). s.0) (drop (c.loop-set.set-index + 1) c.args.sets.now)) (rw next at c.loop-set.invariant.1)

pub loop-set-preserved : goal.loop-set-preserved
loop-set-preserved c =
    let next = firsts-next c.args.sets.now c.loop-set.set-index c.set-item.result c.loop-set-test.true c.set-item.is in (
      walks-more _ _ _ _ _ (rw next at c.loop-set.invariant.0) (sym c.has.ensures ∙ c.if-has.false) (λ column. c.add.ensures (At column)),
      columns-more 32 c.set-item.result.0 (map (λ (s : ℕ × Expr). s.0) (drop (c.loop-set.set-index + 1) c.args.sets.now)) (rw next at c.loop-set.invariant.1),
    )
