use Rattle.std.proofs.Common.{◌≡◌, drop}
use Rattle.std.specs.List.{list_any}
use Rattle.qf_grammar.specs.Usage.{is_alike}
use Rattle.qf_grammar.proofs.uses.some_alike.Given as goal

abbrev pub invariant-loop-used : goal.invariant-loop-used
invariant-loop-used l = list_any is_alike (drop l.used-index l.uses) ≡ list_any is_alike l.uses
