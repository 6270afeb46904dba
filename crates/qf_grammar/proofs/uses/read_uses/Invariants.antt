use Rattle.std.proofs.Common.{◌≡◌, ◌++◌, length}
use Rattle.qf_grammar.specs.Usage.{uses_in}
use Rattle.qf_grammar.proofs.uses.read_uses.Given as goal

abbrev pub invariant-loop-used : goal.invariant-loop-used
invariant-loop-used l = l.found ++ uses_in l.rest ≡ uses_in l.lexemes

abbrev pub decreases-loop-used : goal.decreases-loop-used
decreases-loop-used l = length l.rest
