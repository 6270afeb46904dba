use Rattle.qf_rows.proofs.Forms.{well_formed}
use Rattle.qf_rows.proofs.laws.systems_are_well_formed.Goals as goal

pub returns : goal.returns
returns c = λ hull defs circuit few. well_formed hull defs circuit.names few
