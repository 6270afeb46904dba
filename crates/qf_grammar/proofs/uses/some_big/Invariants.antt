use Rattle.std.proofs.Common.{◌≡◌, drop}
use Rattle.std.specs.List.{list_any}
use Rattle.qf_grammar.specs.Usage.{has_big_factor}
use Rattle.qf_grammar.proofs.uses.some_big.Given as goal

abbrev pub invariant-loop-used : goal.invariant-loop-used
invariant-loop-used l = list_any (has_big_factor l.numbers) (drop l.used-index l.uses) ≡ list_any (has_big_factor l.numbers) l.uses
