use Rattle.qf_rows.proofs.Small.{system_small}
use Rattle.qf_rows.proofs.laws.systems_are_small.Goals as goal

pub returns : goal.returns
returns c = λ defs root box circuit few wide narrow. system_small defs box circuit.names circuit.truths root few wide narrow
