use Rattle.std.proofs.Common.{arith}
use Rattle.qf_search.proofs.Repairs.{stands_sound}
use Rattle.qf_search.proofs.Explorations.{goes_on}
use Rattle.qf_search.proofs.Turns.{run_none, run_more, run_stands, run_one, run_ends}
use Rattle.qf_search.proofs.grounds.Grounds.run.Goals as goal

pub loop-turn-init : goal.loop-turn-init
loop-turn-init c = record { ready = c.requires.ready; run = run_none c.args.self.now.problem.now c.args.who c.args.board.now c.requires.free }

pub work-requires-clause-stands : goal.work-requires-clause-stands
work-requires-clause-stands c = run_stands c.args.self.now.problem.now c.args.who c.loop-turn._turn c.args.board.now c.loop-turn.board c.requires.stands c.loop-turn.invariant.run

pub work-requires-clause-who : goal.work-requires-clause-who
work-requires-clause-who c = run_one c.args.self.now.problem.now c.args.who c.loop-turn._turn c.args.board.now c.loop-turn.board c.requires.who c.loop-turn.invariant.run

pub work-requires-clause-free : goal.work-requires-clause-free
work-requires-clause-free c = c.loop-turn.invariant.run.run.free

pub look-requires-clause-stands : goal.look-requires-clause-stands
look-requires-clause-stands c = run_stands c.args.self.now.problem.now c.args.who c.loop-turn._turn c.args.board.now c.loop-turn.board c.requires.stands c.loop-turn.invariant.run

pub look-requires-clause-who : goal.look-requires-clause-who
look-requires-clause-who c = run_one c.args.self.now.problem.now c.args.who c.loop-turn._turn c.args.board.now c.loop-turn.board c.requires.who c.loop-turn.invariant.run

pub look-requires-clause-free : goal.look-requires-clause-free
look-requires-clause-free c = c.loop-turn.invariant.run.run.free

pub loop-turn-preserved : goal.loop-turn-preserved
loop-turn-preserved c = record {
  ready = c.in_ok-work.ensures.ready;
  run = run_more c.args.self.now.problem.now c.args.who c.loop-turn._turn c.args.board.now c.loop-turn.board c.work.new.board c.loop-turn.invariant.run (c.in_ok-work.ensures.worked c.if-not-branch.false);
}

pub returns-in_err-work-clause-explores : goal.returns-in_err-work-clause-explores
returns-in_err-work-clause-explores c =
    run_ends c.args.self.now.problem.now c.args.who c.loop-turn._turn c.args.most c.args.board.now c.loop-turn.board c.work.new.board (omega arith) c.loop-turn.invariant.run c.in_err-work.ensures.err

pub rest-requires-clause-sound : goal.rest-requires-clause-sound
rest-requires-clause-sound c =
    let case = c.args.self.now.problem.now in
    let over = c.in_ok-work.ensures.over c.if-not-branch.true in
    let stands = run_stands case c.args.who c.loop-turn._turn c.args.board.now c.loop-turn.board c.requires.stands c.loop-turn.invariant.run in
    stands_sound case c.work.new.board c.requires.grounds.sound (goes_on case c.args.who 0 c.loop-turn.board c.work.new.board stands over.run)

pub returns-then-not-branch-clause-explores : goal.returns-then-not-branch-clause-explores
returns-then-not-branch-clause-explores c =
    let over = c.in_ok-work.ensures.over c.if-not-branch.true in
    run_ends c.args.self.now.problem.now c.args.who c.loop-turn._turn c.args.most c.args.board.now c.loop-turn.board c.work.new.board (omega arith) c.loop-turn.invariant.run over.run

pub returns-then-not-branch-clause-idle : goal.returns-then-not-branch-clause-idle
returns-then-not-branch-clause-idle c =
    let over = c.in_ok-work.ensures.over c.if-not-branch.true in
    c.rest.ensures.idle c.args.who over.run.free

pub returns-clause-explores : goal.returns-clause-explores
returns-clause-explores c =
    run_ends c.args.self.now.problem.now c.args.who c.loop-turn._turn c.args.most c.args.board.now c.loop-turn.board c.look.new.board (omega arith) c.loop-turn.invariant.run c.look.ensures.run
