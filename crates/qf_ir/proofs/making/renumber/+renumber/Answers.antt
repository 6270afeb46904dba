use Rattle.std.proofs.Common.{◌∙◌, ap, sym, map}
use Rattle.qf_ir.specs.declared.ast.Cond.TheVariants.{All, Any, Not}
use Rattle.qf_ir.specs.Numbered.{numbered_cond}
use Rattle.qf_ir.proofs.Lists.{numbered_all, numbered_any, numbered_not}
use Rattle.qf_ir.proofs.making.renumber.+renumber.Goals as goal

pub cond-returns-in_ok-conds-in-All : goal.cond-returns-in_ok-conds-in-All
cond-returns-in_ok-conds-in-All t c =
    ap (λ parts. All parts) (c.in_ok-conds-in-All.ensures ∙ ap (map (numbered_cond c.args.numbering.now)) c.as_slice-in-All.ensures)
    ∙ sym (numbered_all c.args.numbering.now c.in-All.parts) ∙ ap (numbered_cond c.args.numbering.now) (sym c.in-All.is)

pub cond-returns-in_ok-conds-in-Any : goal.cond-returns-in_ok-conds-in-Any
cond-returns-in_ok-conds-in-Any t c =
    ap (λ parts. Any parts) (c.in_ok-conds-in-Any.ensures ∙ ap (map (numbered_cond c.args.numbering.now)) c.as_slice-in-Any.ensures)
    ∙ sym (numbered_any c.args.numbering.now c.in-Any.parts) ∙ ap (numbered_cond c.args.numbering.now) (sym c.in-Any.is)

pub cond-returns-in_ok-one-in-Not : goal.cond-returns-in_ok-one-in-Not
cond-returns-in_ok-one-in-Not t c =
    ap (λ part. Not part) (c.in_ok-one-in-Not.ensures ∙ ap (numbered_cond c.args.numbering.now) c.get.ensures)
    ∙ sym (numbered_not c.args.numbering.now c.in-Not.part) ∙ ap (numbered_cond c.args.numbering.now) (sym c.in-Not.is)
