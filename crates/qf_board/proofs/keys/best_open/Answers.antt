use Rattle.std.proofs.Common.{sym}
use Rattle.qf_board.specs.declared.keys.Key.{Key}
use Rattle.qf_board.specs.Kept.{is_open_at, IsReal}
use Rattle.qf_board.proofs.KeySets.{found_among}
use Rattle.qf_board.proofs.keys.best_open.Goals as goal

pub is_wanted-requires-clause-cost : goal.is_wanted-requires-clause-cost
is_wanted-requires-clause-cost c =
    (found_among (IsReal c.args.olds.now c.args.links.now) (λ (key : Key). is_open_at c.args.links.now key.leaf) c.args.keys.now.keys c.in-Some.key.now (sym c.in-Some.ensures.first) c.requires.keys).1
