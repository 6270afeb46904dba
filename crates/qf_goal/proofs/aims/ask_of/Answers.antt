use Rattle.std.proofs.Common.{length, ap, ◌∙◌, arith}
use Rattle.qf_goal.specs.RowPlaces.{row_at, asked_rows, ask_by}
use Rattle.qf_goal.proofs.RowLemmas.{row-of-place}
use Rattle.qf_goal.proofs.MarkLemmas.{length-marks}
use Rattle.qf_goal.proofs.AskLemmas.{mark-there, mark-within, ask-marked}
use Rattle.qf_goal.proofs.aims.ask_of.Goals as goal

pub at-requires : goal.at-requires
at-requires c = omega (arith, ap length c.requires.marks ∙ length-marks c.args.program.now (asked_rows c.args.asks.now))

pub ask_at-requires : goal.ask_at-requires
ask_at-requires c =
    let row = row_at c.args.program.now.starts c.args.place in
    mark-within c.args.asks.now row c.at.result.now
    (mark-there c.args.program.now (asked_rows c.args.asks.now) c.args.marks.now c.args.place row c.at.result.now (row-of-place c.args.program.now c.args.place c.requires.within) c.requires.marks
    (rw c.from.ensures at c.at.ensures))

pub returns : goal.returns
returns c =
    let row = row_at c.args.program.now.starts c.args.place in
    c.ask_at.ensures
    ∙ ap (ask_by c.args.asks.now) (mark-there c.args.program.now (asked_rows c.args.asks.now) c.args.marks.now c.args.place row c.at.result.now (row-of-place c.args.program.now c.args.place c.requires.within) c.requires.marks
    (rw c.from.ensures at c.at.ensures))
    ∙ ask-marked c.args.asks.now row
