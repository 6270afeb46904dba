use Rattle.std.specs.Prelude.{[]}
use Rattle.qf_circuit.proofs.PointHulls.{point_fits}
use Rattle.qf_circuit.proofs.laws.point_hulls_fit_values.Goals as goal

pub returns : goal.returns
returns c = λ defs point fits. point_fits point [] defs fits
