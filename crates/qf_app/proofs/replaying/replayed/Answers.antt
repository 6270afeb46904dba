use Rattle.qf_app.proofs.Reading.{table_is}
use Rattle.qf_app.proofs.replaying.replayed.Goals as goal

pub returns : goal.returns
returns c = table_is c.args.initial.now c.args.log.now c.in_ok-story.story c.table_or_refusal-answer.result c.in_ok-story.ensures.story c.table_or_refusal-answer.ensures
