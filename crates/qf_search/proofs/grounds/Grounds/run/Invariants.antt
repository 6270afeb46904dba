use Rattle.qf_search.specs.Grounding.{IsReady}
use Rattle.qf_search.proofs.Turns.{IsRun}
use Rattle.qf_search.proofs.grounds.Grounds.run.Given as goal

abbrev pub invariant-loop-turn : goal.invariant-loop-turn
invariant-loop-turn l = record {
  ready : IsReady l.self l.store;
  run : IsRun l.self.problem.now l.who l._turn l.initial.board l.board;
}
