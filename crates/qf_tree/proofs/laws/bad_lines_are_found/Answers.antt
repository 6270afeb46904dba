use Rattle.qf_tree.proofs.Faults.{bad_lines_found}
use Rattle.qf_tree.proofs.laws.bad_lines_are_found.Goals as goal

pub returns : goal.returns
returns c = bad_lines_found
