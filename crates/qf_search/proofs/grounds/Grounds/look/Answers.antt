use Rattle.std.proofs.Common.{◌≡◌, sym, subst, refl, Some}
use Rattle.qf_board.specs.Boards.{BoardState, best_box}
use Rattle.qf_search.proofs.Repairs.{stands_sound}
use Rattle.qf_search.proofs.Explorations.{goes_on}
use Rattle.qf_search.proofs.Endings.{wanted_not_ended, wanted_not_idle}
use Rattle.qf_search.proofs.Turns.{handed_by, holds, holds_box, given_is, gave, left}
use Rattle.qf_search.proofs.grounds.Grounds.look.Goals as goal

pub rest-requires-clause-sound : goal.rest-requires-clause-sound
rest-requires-clause-sound c =
    let case = c.args.self.now.problem.now in
    let over = rw c.in_default.is at c.in_ok-_next.ensures.over in
    let t = c.take_next.new.board in
    stands_sound case t c.requires.grounds.sound (goes_on case c.args.who 0 c.args.board.now t c.requires.stands over.run)

pub rest-requires-clause-wanted : goal.rest-requires-clause-wanted
rest-requires-clause-wanted c = let over = rw c.in_default.is at c.in_ok-_next.ensures.over in over.wanted

pub returns-in_default-clause-run : goal.returns-in_default-clause-run
returns-in_default-clause-run c = let over = rw c.in_default.is at c.in_ok-_next.ensures.over in over.run

pub returns-in_default-clause-idle : goal.returns-in_default-clause-idle
returns-in_default-clause-idle c =
    let over = rw c.in_default.is at c.in_ok-_next.ensures.over in
    c.rest.ensures.idle c.args.who over.run.free

pub returns-in_default-clause-spent : goal.returns-in_default-clause-spent
returns-in_default-clause-spent c = λ spent. absurd (c.rest.ensures.spent spent)

pub give_back-requires : goal.give_back-requires
give_back-requires c =
    let case = c.args.self.now.problem.now in
    let s = c.args.board.now in
    let t = c.take_next.new.board in
    let taken = rw c.in-Some.is at c.in_ok-_next.ensures.taken in
    let n = c.in-Some._next in
    holds t c.args.who n.0 (holds_box case c.requires.grounds.sound s c.requires.stands c.args.who c.requires.who c.requires.free n.0 (handed_by case c.args.who s t n.0 n.1 taken) t taken.taken)

pub returns-clause-run : goal.returns-clause-run
returns-clause-run c =
    let case = c.args.self.now.problem.now in
    let s = c.args.board.now in
    let t = c.take_next.new.board in
    let taken = rw c.in-Some.is at c.in_ok-_next.ensures.taken in
    let n = c.in-Some._next in
    gave case c.requires.grounds.sound s c.requires.stands c.args.who c.requires.who c.requires.free n.0 (handed_by case c.args.who s t n.0 n.1 taken) t taken.taken t c.give_back.new.self refl c.give_back.ensures

pub returns-clause-ended : goal.returns-clause-ended
returns-clause-ended c =
    let case = c.args.self.now.problem.now in
    let s = c.args.board.now in
    let t = c.take_next.new.board in
    let u = c.give_back.new.self in
    let taken = rw c.in-Some.is at c.in_ok-_next.ensures.taken in
    let n = c.in-Some._next in
    let handed = handed_by case c.args.who s t n.0 n.1 taken in
    let same = given_is case c.requires.grounds.sound s c.requires.stands c.args.who c.requires.who c.requires.free n.0 handed t taken.taken t u refl c.give_back.ensures in
    let still = subst (λ (x : BoardState). best_box x ≡ Some n.0) (sym same) handed in
    (λ e. absurd (cc), λ ended. absurd (wanted_not_ended u n.0 still ended))

pub returns-clause-idle : goal.returns-clause-idle
returns-clause-idle c =
    let case = c.args.self.now.problem.now in
    let s = c.args.board.now in
    let t = c.take_next.new.board in
    let u = c.give_back.new.self in
    let taken = rw c.in-Some.is at c.in_ok-_next.ensures.taken in
    let n = c.in-Some._next in
    let handed = handed_by case c.args.who s t n.0 n.1 taken in
    let same = given_is case c.requires.grounds.sound s c.requires.stands c.args.who c.requires.who c.requires.free n.0 handed t taken.taken t u refl c.give_back.ensures in
    let still = subst (λ (x : BoardState). best_box x ≡ Some n.0) (sym same) handed in
    (λ e. absurd (cc), λ idle. absurd (wanted_not_idle u n.0 c.args.who still idle))

pub returns-clause-spent : goal.returns-clause-spent
returns-clause-spent c = λ spent.
    let case = c.args.self.now.problem.now in
    let s = c.args.board.now in
    let t = c.take_next.new.board in
    let taken = rw c.in-Some.is at c.in_ok-_next.ensures.taken in
    let n = c.in-Some._next in
    left case c.requires.grounds.sound s c.requires.stands c.args.who c.requires.who c.requires.free n.0 (handed_by case c.args.who s t n.0 n.1 taken) t taken.taken n.1 taken.failing c.give_back.new.self c.give_back.ensures
