use Rattle.qf_tree.proofs.Claims.{certificates_sound}
use Rattle.qf_tree.proofs.laws.certificates_are_sound.Goals as goal

pub returns : goal.returns
returns c = certificates_sound
