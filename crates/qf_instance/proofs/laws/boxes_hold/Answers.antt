use Rattle.qf_instance.proofs.Boxes.{boxes_hold}
use Rattle.qf_instance.proofs.laws.boxes_hold.Goals as goal

pub returns : goal.returns
returns c = boxes_hold
