use Rattle.std.proofs.Common.{◌∙◌, ap, sym, ◌++◌, [], ◌∷◌}
use Rattle.qf_ir.proofs.Tallies.{range-next}
use Rattle.qf_ir.proofs.making.faults.all_columns.Goals as goal

pub loop-column-preserved : goal.loop-column-preserved
loop-column-preserved c =
    c.in_ok-push.ensures.ok ∙ ap (λ xs. xs ++ c.loop-column.column ∷ []) c.loop-column.invariant ∙ sym (range-next c.loop-column.column)
