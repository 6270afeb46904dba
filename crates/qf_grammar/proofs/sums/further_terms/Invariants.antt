use Rattle.std.proofs.Common.{◌≡◌, ◌-◌, length}
use Rattle.qf_grammar.specs.Reading.{further_at}
use Rattle.qf_grammar.specs.Reading.{next_term}
use Rattle.qf_grammar.proofs.Further.{with_front}
use Rattle.qf_grammar.proofs.sums.further_terms.Given as goal

abbrev pub invariant-loop : goal.invariant-loop
invariant-loop l = with_front l.terms (further_at next_term (length l.lexemes - l.counter) l.rest) ≡ further_at next_term (length l.lexemes) l.lexemes
