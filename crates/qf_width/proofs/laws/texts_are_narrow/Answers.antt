use Rattle.qf_width.proofs.TextSteps.{texts_are_narrow}
use Rattle.qf_width.proofs.laws.texts_are_narrow.Goals as goal

pub returns : goal.returns
returns c = texts_are_narrow
