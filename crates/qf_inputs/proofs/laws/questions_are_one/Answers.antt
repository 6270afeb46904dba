use Rattle.qf_inputs.proofs.OneReading.{questions_are_one}
use Rattle.qf_inputs.proofs.laws.questions_are_one.Goals as goal

pub returns : goal.returns
returns c = questions_are_one
