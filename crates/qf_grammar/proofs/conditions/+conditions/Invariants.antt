use Rattle.std.proofs.Common.{◌≡◌, ◌+◌, ◌*◌, ◌-◌, length}
use Rattle.qf_grammar.specs.Reading.{chain, unit_at, conj_with, is_and, is_or}
use Rattle.qf_grammar.proofs.Chains.{with_front}
use Rattle.qf_grammar.proofs.conditions.+conditions.Given as goal

abbrev pub decreases-negated : goal.decreases-negated
decreases-negated l = 4 * l.depth

abbrev pub decreases-grouped : goal.decreases-grouped
decreases-grouped l = 4 * l.depth

abbrev pub decreases-unit : goal.decreases-unit
decreases-unit l = 4 * l.depth + 1

abbrev pub decreases-conj : goal.decreases-conj
decreases-conj l = 4 * l.depth + 2

abbrev pub decreases-chain : goal.decreases-chain
decreases-chain l = 4 * l.depth + 3

abbrev pub invariant-conj-loop : goal.invariant-conj-loop
invariant-conj-loop l = with_front l.parts (chain (unit_at l.depth) is_and (length l.lexemes - l.counter) l.rest) ≡ chain (unit_at l.depth) is_and (length l.lexemes) l.lexemes

abbrev pub invariant-chain-loop : goal.invariant-chain-loop
invariant-chain-loop l = with_front l.parts (chain (conj_with (unit_at l.depth)) is_or (length l.lexemes - l.counter) l.rest) ≡ chain (conj_with (unit_at l.depth)) is_or (length l.lexemes) l.lexemes
