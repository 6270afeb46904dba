use Rattle.qf_app.proofs.FinalCodes.{final_rows_fit}
use Rattle.qf_app.proofs.replaying.final_table.Goals as goal

pub print_table-requires : goal.print_table-requires
print_table-requires c =
    let story = c.args.story.now in
    rw (c.texts.ensures, c.in_ok-rows.ensures) (final_rows_fit story.program story.table c.in_ok-olds.olds c.requires.table c.requires.program c.requires.belongs)
