use Rattle.qf_width.proofs.LivesLie.{lives_lie}
use Rattle.qf_width.proofs.laws.lives_lie_in_widths.Goals as goal

pub returns : goal.returns
returns c = lives_lie
