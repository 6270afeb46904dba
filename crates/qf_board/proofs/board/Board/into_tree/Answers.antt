use Rattle.std.proofs.Common.{◌∙◌}
use Rattle.qf_board.proofs.Trees.{boxes_fit, tree_is}
use Rattle.qf_board.proofs.board.Board.into_tree.Goals as goal

pub nodes_of-requires-clause-boxes : goal.nodes_of-requires-clause-boxes
nodes_of-requires-clause-boxes c = boxes_fit c.self.inside c.self.invariant

pub returns : goal.returns
returns c = rw (← c.self.view_is) (c.in_ok-nodes_of.ensures ∙ tree_is c.self.inside c.self.invariant)
