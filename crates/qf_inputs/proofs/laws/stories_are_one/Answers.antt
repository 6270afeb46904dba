use Rattle.qf_inputs.proofs.OneReading.{stories_are_one}
use Rattle.qf_inputs.proofs.laws.stories_are_one.Goals as goal

pub returns : goal.returns
returns c = stories_are_one
