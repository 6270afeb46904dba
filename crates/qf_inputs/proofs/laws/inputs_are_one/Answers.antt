use Rattle.qf_inputs.proofs.OneReading.{inputs_are_one}
use Rattle.qf_inputs.proofs.laws.inputs_are_one.Goals as goal

pub returns : goal.returns
returns c = inputs_are_one
