use Rattle.std.proofs.Common.{rules, ◌+◌, drop, arith}
use Rattle.qf_ir.specs.declared.ast.Cond.{the_lemmas}
use Rattle.qf_encode.specs.Coding.{Defs, made_cond}
use Rattle.qf_encode.specs.Making.{made_parts}
use Rattle.qf_encode.proofs.Growing.{parts_grow}
use Rattle.qf_encode.proofs.Loops.{opened, first_few}
use Rattle.qf_encode.proofs.CondParts.{turns_of_all, turns_of_any, turns_of_not, few_of_all, few_of_any, few_of_not, is_all, is_any, is_not}
use Rattle.qf_encode.proofs.maker.Maker.+make_condition.Goals as goal

pub condition-parts-requires : goal.condition-parts-requires
condition-parts-requires t c =
    let few = few_of_all c.args.columns.now c.args.self.now c.args.condition.now c.in-All.parts c.as_slice-in-All.result.now _ c.in-All.is c.as_slice-in-All.ensures c.requires.few in
    (search (rules, the_lemmas), (rw c.as_slice-in-All.ensures (turns_of_all c.in-All.parts (rw c.in-All.is at c.requires.turns)), omega (arith, few)))

pub condition-push-requires-in-All-clause-few : goal.condition-push-requires-in-All-clause-few
condition-push-requires-in-All-clause-few t c =
    rw c.in_ok-parts-in-All.ensures.made (few_of_all c.args.columns.now c.args.self.now c.args.condition.now c.in-All.parts c.as_slice-in-All.result.now _ c.in-All.is c.as_slice-in-All.ensures c.requires.few)

pub condition-returns-in_ok-parts-in-All-clause-made : goal.condition-returns-in_ok-parts-in-All-clause-made
condition-returns-in_ok-parts-in-All-clause-made t c =
    let same = is_all c.args.columns.now c.args.self.now c.parts.new.self c.parts.new.numbers c.args.condition.now c.in-All.parts c.as_slice-in-All.result.now c.in-All.is c.as_slice-in-All.ensures c.in_ok-parts-in-All.ensures.made (rw c.new-numbers-in-All.ensures at c.in_ok-parts-in-All.ensures.numbers) in
    rw (← same) c.push-in-All.ensures.made

pub condition-returns-in_ok-parts-in-All-clause-number : goal.condition-returns-in_ok-parts-in-All-clause-number
condition-returns-in_ok-parts-in-All-clause-number t c =
    let same = is_all c.args.columns.now c.args.self.now c.parts.new.self c.parts.new.numbers c.args.condition.now c.in-All.parts c.as_slice-in-All.result.now c.in-All.is c.as_slice-in-All.ensures c.in_ok-parts-in-All.ensures.made (rw c.new-numbers-in-All.ensures at c.in_ok-parts-in-All.ensures.numbers) in
    rw (← same) c.push-in-All.ensures.number

pub condition-parts-requires-in-Any : goal.condition-parts-requires-in-Any
condition-parts-requires-in-Any t c =
    let few = few_of_any c.args.columns.now c.args.self.now c.args.condition.now c.in-Any.parts c.as_slice-in-Any.result.now _ c.in-Any.is c.as_slice-in-Any.ensures c.requires.few in
    (search (rules, the_lemmas), (rw c.as_slice-in-Any.ensures (turns_of_any c.in-Any.parts (rw c.in-Any.is at c.requires.turns)), omega (arith, few)))

pub condition-push-requires-in-Any-clause-few : goal.condition-push-requires-in-Any-clause-few
condition-push-requires-in-Any-clause-few t c =
    rw c.in_ok-parts-in-Any.ensures.made (few_of_any c.args.columns.now c.args.self.now c.args.condition.now c.in-Any.parts c.as_slice-in-Any.result.now _ c.in-Any.is c.as_slice-in-Any.ensures c.requires.few)

pub condition-returns-in_ok-parts-in-Any-clause-made : goal.condition-returns-in_ok-parts-in-Any-clause-made
condition-returns-in_ok-parts-in-Any-clause-made t c =
    let same = is_any c.args.columns.now c.args.self.now c.parts-in-Any.new.self c.parts-in-Any.new.numbers c.args.condition.now c.in-Any.parts c.as_slice-in-Any.result.now c.in-Any.is c.as_slice-in-Any.ensures c.in_ok-parts-in-Any.ensures.made (rw c.new-numbers-in-Any.ensures at c.in_ok-parts-in-Any.ensures.numbers) in
    rw (← same) c.push-in-Any.ensures.made

pub condition-returns-in_ok-parts-in-Any-clause-number : goal.condition-returns-in_ok-parts-in-Any-clause-number
condition-returns-in_ok-parts-in-Any-clause-number t c =
    let same = is_any c.args.columns.now c.args.self.now c.parts-in-Any.new.self c.parts-in-Any.new.numbers c.args.condition.now c.in-Any.parts c.as_slice-in-Any.result.now c.in-Any.is c.as_slice-in-Any.ensures c.in_ok-parts-in-Any.ensures.made (rw c.new-numbers-in-Any.ensures at c.in_ok-parts-in-Any.ensures.numbers) in
    rw (← same) c.push-in-Any.ensures.number

pub condition-condition-requires : goal.condition-condition-requires
condition-condition-requires t c =
    let few = few_of_not c.args.columns.now c.args.self.now c.args.condition.now c.in-Not.part c.get.result.now _ c.in-Not.is c.get.ensures c.requires.few in
    (search (rules, the_lemmas), (rw c.get.ensures (turns_of_not c.in-Not.part (rw c.in-Not.is at c.requires.turns)), omega (arith, few)))

pub condition-push-requires-in-Not-clause-few : goal.condition-push-requires-in-Not-clause-few
condition-push-requires-in-Not-clause-few t c =
    rw c.in_ok-number-in-Not.ensures.made (few_of_not c.args.columns.now c.args.self.now c.args.condition.now c.in-Not.part c.get.result.now _ c.in-Not.is c.get.ensures c.requires.few)

pub condition-returns-in_ok-number-in-Not-clause-made : goal.condition-returns-in_ok-number-in-Not-clause-made
condition-returns-in_ok-number-in-Not-clause-made t c =
    let same = is_not c.args.columns.now c.args.self.now c.condition.new.self c.in_ok-number-in-Not.number c.args.condition.now c.in-Not.part c.get.result.now c.in-Not.is c.get.ensures c.in_ok-number-in-Not.ensures.made c.in_ok-number-in-Not.ensures.number in
    rw (← same) c.push-in-Not.ensures.made

pub condition-returns-in_ok-number-in-Not-clause-number : goal.condition-returns-in_ok-number-in-Not-clause-number
condition-returns-in_ok-number-in-Not-clause-number t c =
    let same = is_not c.args.columns.now c.args.self.now c.condition.new.self c.in_ok-number-in-Not.number c.args.condition.now c.in-Not.part c.get.result.now c.in-Not.is c.get.ensures c.in_ok-number-in-Not.ensures.made c.in_ok-number-in-Not.ensures.number in
    rw (← same) c.push-in-Not.ensures.number

pub parts-condition-requires : goal.parts-condition-requires
parts-condition-requires t c =
    let columns = c.args.columns.now in
    let i = c.loop-part.part-index in
    let e = opened c.args.parts.now i c.part-item.result c.loop-part-test.true c.part-item.is in
    let first = made_cond columns c.loop-part.self c.part-item.result in
    let rest = λ (d : Defs). made_parts columns d (drop (i + 1) c.args.parts.now) in
    let turn = rw e at c.loop-part.invariant.turn in
    (search (rules, the_lemmas), (turn.0, first_few rest first (made_parts columns c.args.self.now c.args.parts.now).0 _ (parts_grow columns first.0 (drop (i + 1) c.args.parts.now)) (rw e at c.loop-part.invariant.made) c.requires.few))
