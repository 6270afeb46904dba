use Rattle.qf_circuit.proofs.PointHulls.{point_hull}
use Rattle.qf_circuit.proofs.laws.point_hulls_are_values.Goals as goal

pub returns : goal.returns
returns c = point_hull
