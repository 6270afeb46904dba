use Rattle.std.proofs.Common.{◌≡◌, ◌∙◌, ap, subst, map}
use Rattle.qf_ir.specs.Checked as ir
use Rattle.qf_ir.specs.Checked.{program_of}
use Rattle.qf_log.specs.declared.places.ParamPlace.{ParamPlace}
use Rattle.qf_log.specs.Reading.{Reading, olds_of}
use Rattle.qf_log.proofs.parsing.Log.program.Goals as goal

pub returns-clause-program : goal.returns-clause-program
returns-clause-program c =
    let log = c.self.inside in
    let table = c.args.table.now in
    let statements : c.in_ok-statements.statements ≡ log.statements = c.in_ok-statements.ensures ∙ c.as_slice-2.ensures in
    let olds : c.in_ok-olds.olds ≡ map (λ (p : ParamPlace). p.old) log.parameters = c.in_ok-olds.ensures ∙ ap (map (λ (p : ParamPlace). p.old)) c.as_slice.ensures in
    subst (λ (r : Reading). ir.Gives c.new.result (program_of table r.names r.texts r.statements (olds_of r))) c.self.view_is
    (subst (λ o. ir.Gives c.new.result (program_of table log.names log.texts log.statements o)) olds
    (subst (λ s. ir.Gives c.new.result (program_of table log.names log.texts s c.in_ok-olds.olds)) statements c.new.ensures.program))
