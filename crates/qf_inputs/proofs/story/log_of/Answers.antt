use Rattle.std.proofs.Common.{inl, sym, ◌∙◌, ap}
use Rattle.qf_inputs.specs.Refusals.{told}
use Rattle.qf_inputs.proofs.Faults.{lex_fault_is}
use Rattle.qf_inputs.proofs.story.log_of.Goals as goal

pub returns-in_ok-refused-in-Err : goal.returns-in_ok-refused-in-Err
returns-in_ok-refused-in-Err c =
    let e = c.in_ok-refused-in-Err.ensures in
    inl (record {
      fault = c.in-Err.fault;
      first = c.in-Err.ensures.faults (lex_fault_is c.in-Err.fault c.in_ok-refused-in-Err.field-0 (sym c.refusal.ensures ∙ e.there));
      refusal_is = e.told ∙ ap told c.refusal.ensures;
    })
