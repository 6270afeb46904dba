use Rattle.std.proofs.Common.{◌∙◌}
use Rattle.qf_goal.proofs.MarkLemmas.{marked_is}
use Rattle.qf_goal.proofs.marks.is_marked.Goals as goal

pub returns : goal.returns
returns c = λ earlier is.
    c.is_some.ensures
    ∙ marked_is c.args.program.now earlier c.args.row c.args.marks.now c.from.result c.at.result.now c.requires.exists (c.from.ensures ∙ c.row_place-place.ensures.place) c.at.ensures is
