use Rattle.std.proofs.Common.{◌∙◌, ap, sym, length}
use Rattle.qf_ir.specs.Plan.{Plan}
use Rattle.qf_search.proofs.LeftBox.{holds_it, back_again, long_box, spans_box}
use Rattle.qf_search.proofs.solving.least_left.Goals as goal

pub give_back-requires : goal.give_back-requires
give_back-requires c = holds_it c.args.problem.now c.args.board.now c.requires.left c.requires.free c.take.new.self c.in_ok-region.ensures.ok

pub returns-in_err-point-clause-same : goal.returns-in_err-point-clause-same
returns-in_err-point-clause-same c = back_again c.args.problem.now c.args.board.now c.requires.left c.requires.free c.take.new.self c.give_back.new.self c.in_ok-region.ensures.ok c.give_back.ensures

pub cheapest-requires-clause-olds : goal.cheapest-requires-clause-olds
cheapest-requires-clause-olds c =
    ap length (c.olds-olds.ensures ∙ ap (λ (p : Plan). p.olds) c.program.ensures.value)
    ∙ long_box c.args.problem.now c.args.board.now c.requires.left c.requires.sound c.in_ok-region.field-0 c.in-Some.region c.in_ok-region.ensures.handed c.in-Some.is c.requires.olds

pub cheapest-requires-clause-into : goal.cheapest-requires-clause-into
cheapest-requires-clause-into c =
    ap length (c.in_ok-point.ensures ∙ c.olds-olds.ensures ∙ ap (λ (p : Plan). p.olds) c.program.ensures.value)
    ∙ long_box c.args.problem.now c.args.board.now c.requires.left c.requires.sound c.in_ok-region.field-0 c.in-Some.region c.in_ok-region.ensures.handed c.in-Some.is c.requires.olds

pub cheapest-requires-clause-spans : goal.cheapest-requires-clause-spans
cheapest-requires-clause-spans c = spans_box c.args.problem.now c.args.board.now c.requires.left c.requires.sound c.in_ok-region.field-0 c.in-Some.region c.in_ok-region.ensures.handed c.in-Some.is

pub cost-requires : goal.cost-requires
cost-requires c =
    let long = ap length (c.olds-olds.ensures ∙ ap (λ (p : Plan). p.olds) c.program.ensures.value)
    ∙ long_box c.args.problem.now c.args.board.now c.requires.left c.requires.sound c.in_ok-region.field-0 c.in-Some.region c.in_ok-region.ensures.handed c.in-Some.is c.requires.olds in
    record { same = long ∙ sym c.cheapest.ensures.len }

pub returns-clause-same : goal.returns-clause-same
returns-clause-same c = back_again c.args.problem.now c.args.board.now c.requires.left c.requires.free c.take.new.self c.give_back.new.self c.in_ok-region.ensures.ok c.give_back.ensures
