use Rattle.std.proofs.Common.{◌∙◌, sym, ap, map}
use Rattle.qf_ir.specs.declared.ast.Cond.TheVariants as cond
use Rattle.qf_log.specs.Lowered.{lowered_condition}
use Rattle.qf_log.proofs.Conditions.{lowered_all, lowered_any, lowered_not}
use Rattle.qf_log.proofs.lowering.+lowering.Goals as goal

pub lower_condition-returns-in_ok-lower_parts-in-All : goal.lower_condition-returns-in_ok-lower_parts-in-All
lower_condition-returns-in_ok-lower_parts-in-All t c =
    let f = lowered_condition c.args.values.now c.args.ids.now in
    ap (λ cs. cond.All cs) (c.in_ok-lower_parts-in-All.ensures ∙ ap (map f) c.as_slice.ensures) ∙ sym (lowered_all c.args.values.now c.args.ids.now c.in-All.parts) ∙ ap f (sym c.in-All.is)

pub lower_condition-returns-in_ok-lower_parts-in-Any : goal.lower_condition-returns-in_ok-lower_parts-in-Any
lower_condition-returns-in_ok-lower_parts-in-Any t c =
    let f = lowered_condition c.args.values.now c.args.ids.now in
    ap (λ cs. cond.Any cs) (c.in_ok-lower_parts-in-Any.ensures ∙ ap (map f) c.as_slice-in-Any.ensures) ∙ sym (lowered_any c.args.values.now c.args.ids.now c.in-Any.parts) ∙ ap f (sym c.in-Any.is)

pub lower_condition-returns-in_ok-new-in-Not : goal.lower_condition-returns-in_ok-new-in-Not
lower_condition-returns-in_ok-new-in-Not t c =
    let f = lowered_condition c.args.values.now c.args.ids.now in
    ap (λ x. cond.Not x) (c.in_ok-new-in-Not.ensures ∙ c.in_ok-lowered-in-Not.ensures ∙ ap f c.get.ensures) ∙ sym (lowered_not c.args.values.now c.args.ids.now c.in-Not.part) ∙ ap f (sym c.in-Not.is)
