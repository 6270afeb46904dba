use Rattle.qf_search.proofs.Repairs.{answer, have_the_least}
use Rattle.qf_search.proofs.laws.ended_boards_have_the_least_repair.Goals as goal

pub returns-clause-answer : goal.returns-clause-answer
returns-clause-answer c = answer

pub returns-clause-least : goal.returns-clause-least
returns-clause-least c = have_the_least
