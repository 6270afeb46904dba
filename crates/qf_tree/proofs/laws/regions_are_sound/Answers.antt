use Rattle.qf_tree.proofs.Claims.{regions_sound}
use Rattle.qf_tree.proofs.laws.regions_are_sound.Goals as goal

pub returns : goal.returns
returns c = regions_sound
