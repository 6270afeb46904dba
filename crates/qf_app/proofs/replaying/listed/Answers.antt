use Rattle.qf_app.proofs.Reading.{parameters_are}
use Rattle.qf_app.proofs.replaying.listed.Goals as goal

pub returns : goal.returns
returns c = parameters_are c.args.initial.now c.args.log.now c.in_ok-story.story c.parameters_or_refusal-answer.result c.in_ok-story.ensures.story c.parameters_or_refusal-answer.ensures
