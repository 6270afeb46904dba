use Rattle.std.proofs.Common.{◌≡◌, ◌++◌, drop}
use Rattle.std.specs.List.{flat_map}
use Rattle.qf_tree.specs.Lines.{node_lines}
use Rattle.qf_certtext.specs.Spelling.{bytes_of_lines}
use Rattle.qf_certtext.proofs.writing.add_nodes.Given as goal

abbrev pub invariant-loop-node : goal.invariant-loop-node
invariant-loop-node l =
    l.text ++ bytes_of_lines (flat_map node_lines (drop l.node-index l.nodes)) ≡ l.fn.text ++ bytes_of_lines (flat_map node_lines l.nodes)
