use Rattle.std.specs.Prelude.{IsTrue}
use Rattle.qf_point.proofs.Leasts.{least_once}
use Rattle.qf_point.proofs.laws.at_most_one_is_least.Goals as goal

pub returns : goal.returns
returns c = λ repairs. least_once (λ q. IsTrue (repairs q))
