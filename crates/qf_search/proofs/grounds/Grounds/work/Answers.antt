use Rattle.std.proofs.Common.{refl}
use Rattle.qf_search.proofs.Turns.{handed_by, holds_box, gave, worked, on_any_err}
use Rattle.qf_search.specs.Exploring.{Explores}
use Rattle.qf_search.proofs.grounds.Grounds.work.Goals as goal

pub settle-requires-clause-inside : goal.settle-requires-clause-inside
settle-requires-clause-inside c = rw c.in-Some.is at c.in_ok-region.ensures.inside

pub settle-requires-clause-failing : goal.settle-requires-clause-failing
settle-requires-clause-failing c = let taken = rw c.in-Some.is at c.in_ok-region.ensures.taken in taken.failing

pub settle-requires-clause-held : goal.settle-requires-clause-held
settle-requires-clause-held c =
    let case = c.args.self.now.problem.now in
    let s = c.args.board.now in
    let t = c.take_next.new.board in
    let taken = rw c.in-Some.is at c.in_ok-region.ensures.taken in
    holds_box case c.requires.grounds.sound s c.requires.stands c.args.who c.requires.who c.requires.free c.in-Some.region (handed_by case c.args.who s t c.in-Some.region c.in-Some.row taken) t taken.taken

pub returns-clause-worked : goal.returns-clause-worked
returns-clause-worked c = λ yes_it_is.
    let case = c.args.self.now.problem.now in
    let s = c.args.board.now in
    let t = c.take_next.new.board in
    let taken = rw c.in-Some.is at c.in_ok-region.ensures.taken in
    worked case c.requires.grounds.sound s c.requires.stands c.args.who c.requires.who c.requires.free c.in-Some.region (handed_by case c.args.who s t c.in-Some.region c.in-Some.row taken) t taken.taken c.in-Some.row taken.failing c.settle.new.board c.in_ok-settle.ensures.ok

pub returns-in_err-settle-clause-err : goal.returns-in_err-settle-clause-err
returns-in_err-settle-clause-err c =
    let case = c.args.self.now.problem.now in
    let s = c.args.board.now in
    let t = c.take_next.new.board in
    let u = c.settle.new.board in
    let taken = rw c.in-Some.is at c.in_ok-region.ensures.taken in
    let run = gave case c.requires.grounds.sound s c.requires.stands c.args.who c.requires.who c.requires.free c.in-Some.region (handed_by case c.args.who s t c.in-Some.region c.in-Some.row taken) t taken.taken t u refl c.in_err-settle.ensures.err in
    on_any_err c.from_residual-in_err-settle.result (Explores case c.args.who 0 s u) run
