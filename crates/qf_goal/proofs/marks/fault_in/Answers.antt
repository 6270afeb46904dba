use Rattle.std.proofs.Common.{sym, ◌∙◌, ap}
use Rattle.qf_goal.specs.Asked.{stated_fault}
use Rattle.qf_goal.proofs.MarkLemmas.{repeated_row, other_fault}
use Rattle.qf_goal.proofs.marks.fault_in.Goals as goal

pub returns-then-is_marked-clause-fault : goal.returns-then-is_marked-clause-fault
returns-then-is_marked-clause-fault c = λ earlier is.
    repeated_row c.args.program.now earlier c.args.number c.args.complaint.now (sym c.if-not-row_exists.ensures) (sym (c.is_marked.ensures earlier is) ∙ c.if-is_marked.true)

pub returns-clause-fault : goal.returns-clause-fault
returns-clause-fault c = λ earlier is.
    other_fault c.args.program.now earlier c.args.number c.args.complaint.now c.stated_fault.result (sym c.if-not-row_exists.ensures) (sym (c.is_marked.ensures earlier is) ∙ c.if-is_marked.false)
    (c.stated_fault.ensures ∙ ap (λ columns. stated_fault columns c.args.number c.stated.result.now) (c.as_slice.ensures ∙ c.columns.ensures)
    ∙ ap (λ values. stated_fault c.args.program.now.columns c.args.number values) c.stated.ensures)
