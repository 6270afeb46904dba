use Rattle.std.proofs.Common.{◌∙◌, ap, sym, refl, is_some}
use Rattle.qf_search.proofs.Turns.{over_none, holds, holds_box, inside, is_taken, over_found, gave}
use Rattle.qf_search.proofs.grounds.Grounds.take_next.Goals as goal

pub returns-in_default-clause-over : goal.returns-in_default-clause-over
returns-in_default-clause-over c =
    let took = c.in_ok-region.ensures in
    over_none c.args.self.now.problem.now c.args.who c.args.board.now c.take.new.self c.requires.free (sym took.handed ∙ c.in_default.is) (sym took.some ∙ ap is_some c.in_default.is) took.ok

pub failing-requires-clause-inside : goal.failing-requires-clause-inside
failing-requires-clause-inside c =
    let g = c.args.self.now in
    let took = c.in_ok-region.ensures in
    inside g.problem.now c.requires.grounds.sound c.args.board.now c.requires.stands c.args.who c.requires.who c.requires.free c.in-Some.region (sym took.handed ∙ c.in-Some.is) c.take.new.self took.ok g.root c.requires.grounds.is.root

pub found-requires : goal.found-requires
found-requires c =
    let took = c.in_ok-region.ensures in
    holds c.take.new.self c.args.who c.in-Some.region (holds_box c.args.self.now.problem.now c.requires.grounds.sound c.args.board.now c.requires.stands c.args.who c.requires.who c.requires.free c.in-Some.region (sym took.handed ∙ c.in-Some.is) c.take.new.self took.ok)

pub give_back-requires : goal.give_back-requires
give_back-requires c =
    let took = c.in_ok-region.ensures in
    holds c.take.new.self c.args.who c.in-Some.region (holds_box c.args.self.now.problem.now c.requires.grounds.sound c.args.board.now c.requires.stands c.args.who c.requires.who c.requires.free c.in-Some.region (sym took.handed ∙ c.in-Some.is) c.take.new.self took.ok)

pub returns-in-Ok-Some-clause-taken : goal.returns-in-Ok-Some-clause-taken
returns-in-Ok-Some-clause-taken c =
    let took = c.in_ok-region.ensures in
    is_taken c.args.self.now.problem.now c.requires.grounds.sound c.args.board.now c.requires.stands c.args.who c.requires.who c.requires.free c.in-Some.region (sym took.handed ∙ c.in-Some.is) c.take.new.self took.ok c.in-Ok-Some.row (sym c.in-Ok-Some.field-0-is ∙ c.in-Ok-Some.ensures.first)

pub returns-in-Ok-Some-clause-inside : goal.returns-in-Ok-Some-clause-inside
returns-in-Ok-Some-clause-inside c =
    let g = c.args.self.now in
    let took = c.in_ok-region.ensures in
    inside g.problem.now c.requires.grounds.sound c.args.board.now c.requires.stands c.args.who c.requires.who c.requires.free c.in-Some.region (sym took.handed ∙ c.in-Some.is) c.take.new.self took.ok g.root c.requires.grounds.is.root

pub returns-in-Ok-None-clause-over : goal.returns-in-Ok-None-clause-over
returns-in-Ok-None-clause-over c =
    let took = c.in_ok-region.ensures in
    let mends = rw c.in-Ok-None.field-0-is at c.in-Ok-None.ensures.none in
    over_found c.args.self.now.problem.now c.requires.grounds.sound c.args.board.now c.requires.stands c.args.who c.requires.who c.requires.free c.in-Some.region (sym took.handed ∙ c.in-Some.is) c.take.new.self took.ok mends c.found.new.self c.found.ensures

pub returns-in-Err-clause-err : goal.returns-in-Err-clause-err
returns-in-Err-clause-err c =
    let took = c.in_ok-region.ensures in
    gave c.args.self.now.problem.now c.requires.grounds.sound c.args.board.now c.requires.stands c.args.who c.requires.who c.requires.free c.in-Some.region (sym took.handed ∙ c.in-Some.is) c.take.new.self took.ok c.take.new.self c.give_back.new.self refl c.give_back.ensures
