use Rattle.std.proofs.Common.{◌≡◌, ◌++◌, drop, map}
use Rattle.qf_tree.specs.Lines.{step_line}
use Rattle.qf_certtext.specs.Spelling.{bytes_of_lines}
use Rattle.qf_certtext.proofs.writing.add_steps.Given as goal

abbrev pub invariant-loop-step : goal.invariant-loop-step
invariant-loop-step l =
    l.text ++ bytes_of_lines (map step_line (drop l.step-index l.steps)) ≡ l.fn.text ++ bytes_of_lines (map step_line l.steps)
