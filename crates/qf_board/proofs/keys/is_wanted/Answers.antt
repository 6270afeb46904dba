use Rattle.std.proofs.Common.{sym, ◌∙◌}
use Rattle.qf_board.proofs.keys.is_wanted.Goals as goal

pub cost-requires : goal.cost-requires
cost-requires c = record { same = c.requires.best ∙ sym c.in-Some.ensures.params }
