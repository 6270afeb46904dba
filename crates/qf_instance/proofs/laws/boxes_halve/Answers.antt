use Rattle.qf_instance.proofs.Boxes.{boxes_halve}
use Rattle.qf_instance.proofs.laws.boxes_halve.Goals as goal

pub returns : goal.returns
returns c = boxes_halve
