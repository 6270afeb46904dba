use Rattle.qf_search.proofs.Repairs.{keep_repairs}
use Rattle.qf_search.proofs.laws.boards_keep_repairs.Goals as goal

pub returns : goal.returns
returns c = keep_repairs
