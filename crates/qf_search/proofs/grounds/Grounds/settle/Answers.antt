use Rattle.std.proofs.Common.{subst, sym, ap, ◌∙◌}
use Rattle.qf_board.specs.Boards.{BoardState, Holds, GiveBack, after}
use Rattle.qf_search.proofs.Turns.{holds}
use Rattle.qf_search.proofs.grounds.Grounds.settle.Goals as goal

pub give_back-requires : goal.give_back-requires
give_back-requires c =
    subst (λ (s : BoardState). Holds s c.args.who) (sym c.in-Err.ensures.err) (holds c.args.board.now c.args.who c.args.region.now c.requires.held)

pub returns-in-Err-clause-err : goal.returns-in-Err-clause-err
returns-in-Err-clause-err c = c.give_back.ensures ∙ ap (λ (s : BoardState). after s (GiveBack c.args.who)) c.in-Err.ensures.err
