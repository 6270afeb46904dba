use Rattle.qf_inputs.proofs.OneReading.{each_has_a_question}
use Rattle.qf_inputs.proofs.laws.each_has_a_question.Goals as goal

pub returns : goal.returns
returns c = each_has_a_question
