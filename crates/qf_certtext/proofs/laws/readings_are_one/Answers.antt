use Rattle.qf_certtext.proofs.OneReading.{readings_are_one}
use Rattle.qf_certtext.proofs.laws.readings_are_one.Goals as goal

pub returns : goal.returns
returns c = readings_are_one
