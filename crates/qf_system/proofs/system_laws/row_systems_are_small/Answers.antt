use Rattle.qf_system.proofs.GoalSystems.{row_system_small}
use Rattle.qf_system.proofs.system_laws.row_systems_are_small.Goals as goal

pub returns : goal.returns
returns c = λ coded root box g circuit few wide narrow suits. row_system_small coded root box g circuit few wide narrow suits
