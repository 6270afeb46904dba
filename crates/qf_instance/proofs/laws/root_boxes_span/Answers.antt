use Rattle.qf_instance.proofs.Boxes.{roots_span}
use Rattle.qf_instance.proofs.laws.root_boxes_span.Goals as goal

pub returns : goal.returns
returns c = roots_span
