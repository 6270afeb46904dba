use Rattle.qf_search.proofs.Solved.{never_idle}
use Rattle.qf_search.proofs.solving.answer_of.Goals as goal

pub unreachable-requires : goal.unreachable-requires
unreachable-requires c =
    let g = c.requires.ground in
    never_idle c.args.problem.now g.root c.args.region.now g.params g.is c.args.budget c.args.board c.requires.run.run (c.requires.run.idle c.in-Idle.is)
