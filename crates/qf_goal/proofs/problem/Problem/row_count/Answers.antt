use Rattle.std.proofs.Common.{length, sym, ap, ◌∙◌}
use Rattle.qf_goal.specs.Case.{case_rows}
use Rattle.qf_goal.proofs.KeptLemmas.{rows-length}
use Rattle.qf_goal.proofs.problem.Problem.row_count.Goals as goal

pub returns : goal.returns
returns c = c.row_count.ensures ∙ sym (rows-length _ c.self.invariant.sound) ∙ ap (λ case. length (case_rows case)) c.self.view_is
