use Rattle.std.proofs.Common.{◌∙◌, length, ap, arith, Bool, Option, Some}
use Rattle.std.specs.Prelude.{option_map}
use Rattle.qf_grammar.specs.Spelling.{Lexemes}
use Rattle.qf_grammar.specs.Reading.{further_at}
use Rattle.qf_grammar.specs.declared.tree.Term.{Term}
use Rattle.qf_grammar.specs.Reading.{next_term, term_at}
use Rattle.qf_grammar.proofs.Further.{further_more, further_none, further_last, further_out}
use Rattle.qf_grammar.proofs.sums.further_terms.Goals as goal
use Rattle.qf_grammar.proofs.sums.further_terms.Goals.{else-loop-test, then-loop-test+in_default}

pub returns-in_default-term : goal.returns-in_default-term
returns-in_default-term c =
    further_none next_term c.loop.terms (length c.args.lexemes.now) c.loop.counter c.loop.rest.now (further_at next_term (length c.args.lexemes.now) c.args.lexemes.now) c.loop-test.true
    (ap (λ (o : Option (Term × Lexemes)). Some o) c.in_default-term.ensures ∙ ap (option_map (λ (p : Bool × Lexemes). term_at p.0 p.1)) c.in-Some.ensures) c.loop.invariant

pub loop-preserved : goal.loop-preserved
loop-preserved c =
    rw c.in_ok-push.ensures.ok (further_more next_term c.loop.terms (length c.args.lexemes.now) c.loop.counter c.loop.rest.now c.in-Some-term.term c.in-Some-term.after.now (further_at next_term (length c.args.lexemes.now) c.args.lexemes.now) c.loop-test.true
    (ap (λ (o : Option (Term × Lexemes)). Some o) c.in-Some-term.ensures ∙ ap (option_map (λ (p : Bool × Lexemes). term_at p.0 p.1)) c.in-Some.ensures) c.loop.invariant)

pub returns : goal.returns
returns c = elim c.loop-test.branch [
  | else-loop-test w ↦ further_out next_term c.loop.terms (length c.args.lexemes.now) c.loop.counter c.loop.rest.now (further_at next_term (length c.args.lexemes.now) c.args.lexemes.now) (omega (arith, w.loop-test.false)) c.loop.invariant
  | then-loop-test+in_default w ↦ further_last next_term c.loop.terms (length c.args.lexemes.now) c.loop.counter c.loop.rest.now (further_at next_term (length c.args.lexemes.now) c.args.lexemes.now) w.loop-test.true (ap (option_map (λ (p : Bool × Lexemes). term_at p.0 p.1)) w.in_default.ensures) c.loop.invariant
]
