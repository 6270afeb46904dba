use Rattle.qf_base.proofs.BoxLaws.{length-In}
use Rattle.qf_point.proofs.domains.Domains.region.Goals as goal

pub returns-clause-many : goal.returns-clause-many
returns-clause-many c = rw (← c.self.view_is) (length-In c.self.inside.region c.self.inside.olds c.self.invariant.0)
