use Rattle.std.proofs.Common.{rules}
use Rattle.qf_width.specs.Widths.{AreWidths}
use Rattle.qf_width.proofs.LivesLie.{ends_lie}
use Rattle.qf_width.proofs.columns.widths.Goals as goal

pub returns-in-Ok-clause-lies : goal.returns-in-Ok-clause-lies
returns-in-Ok-clause-lies c =
    let is : AreWidths c.args.program.now c.args.table.now c.args.domains.now.region c.advance_all.new.widths = search rules in
    ends_lie c.args.program.now c.args.table.now c.args.domains.now.region c.advance_all.new.widths c.requires.belongs is

pub returns-in-Ok-clause-fits : goal.returns-in-Ok-clause-fits
returns-in-Ok-clause-fits c =
    let is : AreWidths c.args.program.now c.args.table.now c.args.domains.now.region c.advance_all.new.widths = search rules in
    (c.advance_all.new.widths, is)
