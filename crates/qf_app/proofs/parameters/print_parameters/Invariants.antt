use Rattle.std.proofs.Common.{◌≡◌, ◌+◌, ◌++◌, drop}
use Rattle.qf_app.specs.Parameters.{parameters_from, parameters_text}
use Rattle.qf_app.proofs.parameters.print_parameters.Given as goal

abbrev pub invariant-loop-i : goal.invariant-loop-i
invariant-loop-i l = l.writer ++ parameters_from (l.i + 1) (drop l.i l.places) ≡ parameters_text l.places
