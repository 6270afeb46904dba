use Rattle.std.proofs.Common.{◌∙◌, length, ap, arith, Option, Some}
use Rattle.std.specs.Prelude.{option_map}
use Rattle.qf_grammar.specs.Spelling.{Lexemes}
use Rattle.qf_grammar.specs.Reading.{further_at}
use Rattle.std.proofs.Common.{ℕ}
use Rattle.qf_grammar.specs.Reading.{comma_at, one_at, name_of}
use Rattle.qf_grammar.proofs.Further.{further_more, further_none, further_last, further_out}
use Rattle.qf_grammar.proofs.forms.further_names.Goals as goal
use Rattle.qf_grammar.proofs.forms.further_names.Goals.{else-loop-test, then-loop-test+in_default}

pub returns-in_default-name : goal.returns-in_default-name
returns-in_default-name c =
    further_none (comma_at (one_at name_of)) c.loop.names (length c.args.lexemes.now) c.loop.counter c.loop.rest.now (further_at (comma_at (one_at name_of)) (length c.args.lexemes.now) c.args.lexemes.now) c.loop-test.true
    (ap (λ (o : Option (ℕ × Lexemes)). Some o) c.in_default-name.ensures ∙ ap (option_map (one_at name_of)) c.in-Some.ensures) c.loop.invariant

pub loop-preserved : goal.loop-preserved
loop-preserved c =
    rw c.in_ok-push.ensures.ok (further_more (comma_at (one_at name_of)) c.loop.names (length c.args.lexemes.now) c.loop.counter c.loop.rest.now c.in-Some-name.name c.in-Some-name.after.now (further_at (comma_at (one_at name_of)) (length c.args.lexemes.now) c.args.lexemes.now) c.loop-test.true
    (ap (λ (o : Option (ℕ × Lexemes)). Some o) c.in-Some-name.ensures ∙ ap (option_map (one_at name_of)) c.in-Some.ensures) c.loop.invariant)

pub returns : goal.returns
returns c = elim c.loop-test.branch [
  | else-loop-test w ↦ further_out (comma_at (one_at name_of)) c.loop.names (length c.args.lexemes.now) c.loop.counter c.loop.rest.now (further_at (comma_at (one_at name_of)) (length c.args.lexemes.now) c.args.lexemes.now) (omega (arith, w.loop-test.false)) c.loop.invariant
  | then-loop-test+in_default w ↦ further_last (comma_at (one_at name_of)) c.loop.names (length c.args.lexemes.now) c.loop.counter c.loop.rest.now (further_at (comma_at (one_at name_of)) (length c.args.lexemes.now) c.args.lexemes.now) w.loop-test.true (ap (option_map (one_at name_of)) w.in_default.ensures) c.loop.invariant
]
