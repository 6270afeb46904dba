use Rattle.qf_search.proofs.Repairs.{are_alike}
use Rattle.qf_search.proofs.laws.ended_boards_are_alike.Goals as goal

pub returns : goal.returns
returns c = are_alike
