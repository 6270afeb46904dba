use Rattle.std.proofs.Common.{ap, ◌∙◌}
use Rattle.qf_replay.specs.Rows.{taken}
use Rattle.qf_replay.proofs.Sets.{taken-set}
use Rattle.qf_replay.proofs.row.set_cells.Goals as goal

pub returns : goal.returns
returns c =
    c.take_over.ensures ∙ ap (λ from. taken c.args.sets.now from c.args.cells.now) c.work_out.ensures
    ∙ taken-set c.args.sets.now c.args.cells.now c.args.point.now c.args.fresh.now c.args.cells.now c.requires.room
