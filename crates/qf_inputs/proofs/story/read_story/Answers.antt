use Rattle.std.proofs.Common.{sym, ◌∙◌, ap, Result}
use Rattle.qf_base.specs.declared.refusal.Refusal.{Refusal}
use Rattle.qf_ir.specs.declared.table.Table.{Table}
use Rattle.qf_inputs.specs.Story.{with_table}
use Rattle.qf_inputs.proofs.OneReading.{each_log_is_read}
use Rattle.qf_inputs.proofs.story.read_story.Goals as goal

pub returns-in-Err-clause-story : goal.returns-in-Err-clause-story
returns-in-Err-clause-story c =
    let read = each_log_is_read c.args.log.now in
    record {
      reading = read.0;
      reading_is = read.1;
      story_is = ap (λ (t : Result Table Refusal). with_table t read.0) (sym c.in-Err.is ∙ c.in_ok-table.ensures.table);
    }
