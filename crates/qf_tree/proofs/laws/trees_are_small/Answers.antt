use Rattle.qf_tree.proofs.Sizes.{small_trees}
use Rattle.qf_tree.proofs.laws.trees_are_small.Goals as goal

pub returns : goal.returns
returns c = small_trees
