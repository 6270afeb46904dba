use Rattle.std.proofs.Common.{◌≡◌, ◌++◌, drop, length, map}
use Rattle.qf_board.specs.Numbered.{chain}
use Rattle.qf_board.proofs.Walks.{Walk, made}
use Rattle.qf_board.proofs.tree.nodes_of.Given as goal

abbrev pub invariant-loop-i : goal.invariant-loop-i
invariant-loop-i l = record {
  walk : Walk l.fn.links.items l.left.items l.next (drop l.i (chain l.fn.links.items));
  room : length l.room ≡ length l.olds;
  so_far : l.nodes ++ map (made l.olds l.best.best l.fn.links.items) (drop l.i (chain l.fn.links.items)) ≡ map (made l.olds l.best.best l.fn.links.items) (chain l.fn.links.items);
}
