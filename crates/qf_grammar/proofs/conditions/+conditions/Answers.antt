use Rattle.std.proofs.Common.{◌≡◌, List, ap, subst, ◌∙◌, length, Some, IfOk}
use Rattle.std.specs.Prelude.{option_map}
use Rattle.qf_grammar.specs.declared.tree.Condition.{Condition}
use Rattle.qf_grammar.specs.Spelling.{Lexemes, all_of, any_of}
use Rattle.qf_grammar.specs.Reading.{chain, unit_at, conj_with, is_and, is_or}
use Rattle.qf_grammar.proofs.Chains.{chain_start, chain_more, chain_none, chain_last, chain_out}
use Rattle.qf_grammar.specs.declared.tree.Condition.TheVariants as condition
use Rattle.qf_grammar.specs.Reading.{seen, closed}
use Rattle.qf_grammar.proofs.Units.{Read, not_inside, not_deep, group_inside, group_deep, not_at, group_at, test_at}
use Rattle.qf_grammar.proofs.conditions.+conditions.Goals as goal

pub conj-returns-in_default : goal.conj-returns-in_default
conj-returns-in_default t c =
    let item = unit_at c.args.depth in
    let xs = c.args.lexemes.now in
    let all = chain item is_and (length xs) xs in
    ap (option_map (λ (p : List Condition × Lexemes). (all_of p.0, p.1))) (chain_none item is_and c.loop.parts (length xs) c.loop.counter c.loop.rest.now all c.loop-test.true (rw c.in_default.is at c.in_ok-part.ensures) c.loop.invariant)

pub conj-returns-in-None : goal.conj-returns-in-None
conj-returns-in-None t c =
    let item = unit_at c.args.depth in
    let xs = c.args.lexemes.now in
    let all = chain item is_and (length xs) xs in
    ap (λ (x : Condition). Some (x, c.in-Some.after.now)) (c.all_of.ensures ∙ ap all_of c.in_ok-push.ensures.ok)
    ∙ ap (option_map (λ (p : List Condition × Lexemes). (all_of p.0, p.1))) (chain_last item is_and c.loop.parts (length xs) c.loop.counter c.loop.rest.now c.in-Some.part c.in-Some.after.now all c.loop-test.true (rw c.in-Some.is at c.in_ok-part.ensures) c.in-None.ensures c.loop.invariant)

pub conj-returns : goal.conj-returns
conj-returns t c =
    let item = unit_at c.args.depth in
    let xs = c.args.lexemes.now in
    let all = chain item is_and (length xs) xs in
    ap (option_map (λ (p : List Condition × Lexemes). (all_of p.0, p.1))) (chain_out item is_and c.loop.parts (length xs) c.loop.counter c.loop.rest.now all c.loop-test.false c.loop.invariant)

pub conj-loop-init : goal.conj-loop-init
conj-loop-init t c = rw c.new-parts.ensures (chain_start (unit_at c.args.depth) is_and (length c.args.lexemes.now) c.args.lexemes.now)

pub conj-loop-preserved : goal.conj-loop-preserved
conj-loop-preserved t c =
    let item = unit_at c.args.depth in
    let xs = c.args.lexemes.now in
    let all = chain item is_and (length xs) xs in
    rw c.in_ok-push.ensures.ok (chain_more item is_and c.loop.parts (length xs) c.loop.counter c.loop.rest.now c.in-Some.part c.in-Some.after.now c.in-Some-behind_and.next.now all c.loop-test.true (rw c.in-Some.is at c.in_ok-part.ensures) c.in-Some-behind_and.ensures c.loop.invariant)

pub chain-returns-in_default : goal.chain-returns-in_default
chain-returns-in_default t c =
    let item = conj_with (unit_at c.args.depth) in
    let xs = c.args.lexemes.now in
    let all = chain item is_or (length xs) xs in
    ap (option_map (λ (p : List Condition × Lexemes). (any_of p.0, p.1))) (chain_none item is_or c.loop.parts (length xs) c.loop.counter c.loop.rest.now all c.loop-test.true (rw c.in_default.is at c.in_ok-part.ensures) c.loop.invariant)

pub chain-returns-in-None : goal.chain-returns-in-None
chain-returns-in-None t c =
    let item = conj_with (unit_at c.args.depth) in
    let xs = c.args.lexemes.now in
    let all = chain item is_or (length xs) xs in
    ap (λ (x : Condition). Some (x, c.in-Some.after.now)) (c.any_of.ensures ∙ ap any_of c.in_ok-push.ensures.ok)
    ∙ ap (option_map (λ (p : List Condition × Lexemes). (any_of p.0, p.1))) (chain_last item is_or c.loop.parts (length xs) c.loop.counter c.loop.rest.now c.in-Some.part c.in-Some.after.now all c.loop-test.true (rw c.in-Some.is at c.in_ok-part.ensures) c.in-None.ensures c.loop.invariant)

pub chain-returns : goal.chain-returns
chain-returns t c =
    let item = conj_with (unit_at c.args.depth) in
    let xs = c.args.lexemes.now in
    let all = chain item is_or (length xs) xs in
    ap (option_map (λ (p : List Condition × Lexemes). (any_of p.0, p.1))) (chain_out item is_or c.loop.parts (length xs) c.loop.counter c.loop.rest.now all c.loop-test.false c.loop.invariant)

pub chain-loop-init : goal.chain-loop-init
chain-loop-init t c = rw c.new-parts.ensures (chain_start (conj_with (unit_at c.args.depth)) is_or (length c.args.lexemes.now) c.args.lexemes.now)

pub chain-loop-preserved : goal.chain-loop-preserved
chain-loop-preserved t c =
    let item = conj_with (unit_at c.args.depth) in
    let xs = c.args.lexemes.now in
    let all = chain item is_or (length xs) xs in
    rw c.in_ok-push.ensures.ok (chain_more item is_or c.loop.parts (length xs) c.loop.counter c.loop.rest.now c.in-Some.part c.in-Some.after.now c.in-Some-behind_or.next.now all c.loop-test.true (rw c.in-Some.is at c.in_ok-part.ensures) c.in-Some-behind_or.ensures c.loop.invariant)

pub negated-returns-then-depth-eq0 : goal.negated-returns-then-depth-eq0
negated-returns-then-depth-eq0 t c = not_deep c.args.depth c.args.lexemes.now c.if-depth-eq0.true

pub negated-returns-in_default : goal.negated-returns-in_default
negated-returns-in_default t c = ap (option_map (λ (p : Condition × Lexemes). (condition.Not p.0, p.1))) (rw c.in_default.is at c.in_ok-inner.ensures) ∙ not_inside c.args.depth c.args.lexemes.now c.if-depth-eq0.false

pub negated-returns : goal.negated-returns
negated-returns t c = ap (λ (x : Condition). Some (condition.Not x, c.in-Some.rest.now)) c.in_ok-new.ensures ∙ ap (option_map (λ (p : Condition × Lexemes). (condition.Not p.0, p.1))) (rw c.in-Some.is at c.in_ok-inner.ensures) ∙ not_inside c.args.depth c.args.lexemes.now c.if-depth-eq0.false

pub grouped-returns-then-depth-eq0 : goal.grouped-returns-then-depth-eq0
grouped-returns-then-depth-eq0 t c = group_deep c.args.depth c.args.lexemes.now c.if-depth-eq0.true

pub grouped-returns-in_default : goal.grouped-returns-in_default
grouped-returns-in_default t c = ap closed (rw c.in_default.is at c.in_ok-inner.ensures) ∙ group_inside c.args.depth c.args.lexemes.now c.if-depth-eq0.false

pub grouped-returns-in-None : goal.grouped-returns-in-None
grouped-returns-in-None t c = ap (option_map (λ (r : Lexemes). (c.in-Some.inner, r))) c.in-None.ensures ∙ ap closed (rw c.in-Some.is at c.in_ok-inner.ensures) ∙ group_inside c.args.depth c.args.lexemes.now c.if-depth-eq0.false

pub grouped-returns-in-Some-behind_close : goal.grouped-returns-in-Some-behind_close
grouped-returns-in-Some-behind_close t c = ap (option_map (λ (r : Lexemes). (c.in-Some.inner, r))) c.in-Some-behind_close.ensures ∙ ap closed (rw c.in-Some.is at c.in_ok-inner.ensures) ∙ group_inside c.args.depth c.args.lexemes.now c.if-depth-eq0.false

pub unit-returns-in-Some : goal.unit-returns-in-Some
unit-returns-in-Some t c = subst (λ (r : Read). IfOk c.negated.result (λ o. seen o ≡ r)) (not_at c.args.depth c.args.lexemes.now c.in-Some.rest.now c.in-Some.ensures) c.negated.ensures

pub unit-returns-in-Some-behind_open : goal.unit-returns-in-Some-behind_open
unit-returns-in-Some-behind_open t c = subst (λ (r : Read). IfOk c.grouped.result (λ o. seen o ≡ r)) (group_at c.args.depth c.args.lexemes.now c.in-Some-behind_open.rest.now c.in_default.ensures c.in-Some-behind_open.ensures) c.grouped.ensures

pub unit-returns : goal.unit-returns
unit-returns t c = subst (λ (r : Read). IfOk c.tested.result (λ o. seen o ≡ r)) (test_at c.args.depth c.args.lexemes.now c.in_default.ensures c.in_default-behind_open.ensures) c.tested.ensures
