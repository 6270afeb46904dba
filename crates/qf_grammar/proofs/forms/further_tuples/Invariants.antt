use Rattle.std.proofs.Common.{◌≡◌, ◌-◌, length}
use Rattle.qf_grammar.specs.Reading.{further_at}
use Rattle.qf_grammar.specs.Reading.{comma_at, tuple_at}
use Rattle.qf_grammar.proofs.Further.{with_front}
use Rattle.qf_grammar.proofs.forms.further_tuples.Given as goal

abbrev pub invariant-loop : goal.invariant-loop
invariant-loop l = with_front l.tuples (further_at (comma_at tuple_at) (length l.lexemes - l.counter) l.rest) ≡ further_at (comma_at tuple_at) (length l.lexemes) l.lexemes
