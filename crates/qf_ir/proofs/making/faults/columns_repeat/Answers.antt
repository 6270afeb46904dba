use Rattle.std.proofs.Common.{◌∙◌, sym}
use Rattle.std.proofs.lemmas.List.{drop_more}
use Rattle.qf_ir.specs.Flow.{At}
use Rattle.qf_ir.proofs.Repeats.{walks-start, walks-found, walks-more}
use Rattle.qf_ir.proofs.making.faults.columns_repeat.Goals as goal

pub loop-column-init : goal.loop-column-init
loop-column-init c = walks-start _ _ (λ column. c.new-seen.ensures (At column))

pub returns-then-has : goal.returns-then-has
returns-then-has c =
    let next = drop_more c.args.columns.now c.loop-column.column-index 0 c.loop-column-test.true in
    walks-found _ _ _ _ (rw next at c.loop-column.invariant) (sym c.has.ensures ∙ c.if-has.true)

pub loop-column-preserved : goal.loop-column-preserved
loop-column-preserved c =
    let next = drop_more c.args.columns.now c.loop-column.column-index 0 c.loop-column-test.true in
    walks-more _ _ _ _ _ (rw next at c.loop-column.invariant) (sym c.has.ensures ∙ c.if-has.false) (λ column. c.add.ensures (At column))
