use Rattle.std.proofs.Common.{◌∙◌, length, ap, arith, Option, Some}
use Rattle.std.specs.Prelude.{option_map}
use Rattle.qf_grammar.specs.Spelling.{Lexemes}
use Rattle.qf_grammar.specs.Reading.{further_at}
use Rattle.qf_grammar.specs.declared.tree.Assign.{Assign}
use Rattle.qf_grammar.specs.Reading.{comma_at, assign_at}
use Rattle.qf_grammar.proofs.Further.{further_more, further_none, further_last, further_out}
use Rattle.qf_grammar.proofs.forms.further_assigns.Goals as goal
use Rattle.qf_grammar.proofs.forms.further_assigns.Goals.{else-loop-test, then-loop-test+in_default}

pub returns-in_default-2 : goal.returns-in_default-2
returns-in_default-2 c =
    further_none (comma_at assign_at) c.loop.assigns (length c.args.lexemes.now) c.loop.counter c.loop.rest.now (further_at (comma_at assign_at) (length c.args.lexemes.now) c.args.lexemes.now) c.loop-test.true
    (ap (λ (o : Option (Assign × Lexemes)). Some o) (rw c.in_default-2.is at c.in_ok-assign.ensures) ∙ ap (option_map assign_at) c.in-Some.ensures) c.loop.invariant

pub loop-preserved : goal.loop-preserved
loop-preserved c =
    rw c.in_ok-push.ensures.ok (further_more (comma_at assign_at) c.loop.assigns (length c.args.lexemes.now) c.loop.counter c.loop.rest.now c.in-Some-2.assign c.in-Some-2.after.now (further_at (comma_at assign_at) (length c.args.lexemes.now) c.args.lexemes.now) c.loop-test.true
    (ap (λ (o : Option (Assign × Lexemes)). Some o) (rw c.in-Some-2.is at c.in_ok-assign.ensures) ∙ ap (option_map assign_at) c.in-Some.ensures) c.loop.invariant)

pub returns : goal.returns
returns c = elim c.loop-test.branch [
  | else-loop-test w ↦ further_out (comma_at assign_at) c.loop.assigns (length c.args.lexemes.now) c.loop.counter c.loop.rest.now (further_at (comma_at assign_at) (length c.args.lexemes.now) c.args.lexemes.now) (omega (arith, w.loop-test.false)) c.loop.invariant
  | then-loop-test+in_default w ↦ further_last (comma_at assign_at) c.loop.assigns (length c.args.lexemes.now) c.loop.counter c.loop.rest.now (further_at (comma_at assign_at) (length c.args.lexemes.now) c.args.lexemes.now) w.loop-test.true (ap (option_map assign_at) w.in_default.ensures) c.loop.invariant
]
