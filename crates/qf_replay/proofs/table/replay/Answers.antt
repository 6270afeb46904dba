use Rattle.std.proofs.Common.{◌∙◌, ap, length}
use Rattle.qf_replay.proofs.Ends.{replay_ends, starts_fit, all_inserted_fit}
use Rattle.qf_replay.proofs.table.replay.Goals as goal

pub keep_starts-requires-clause-fits : goal.keep_starts-requires-clause-fits
keep_starts-requires-clause-fits c =
    starts_fit c.args.program.now c.args.table.now c.args.point.now _ _ (c.as_slice-statements.ensures ∙ c.statements.ensures.value) c.as_slice-starts.ensures
    c.requires.belongs c.requires.fits

pub keep_inserted-requires-clause-fits : goal.keep_inserted-requires-clause-fits
keep_inserted-requires-clause-fits c =
    all_inserted_fit c.args.program.now c.args.table.now c.args.point.now _ _ (c.as_slice-statements.ensures ∙ c.statements.ensures.value)
    (c.len-width.ensures ∙ ap length c.columns.ensures) c.requires.belongs c.requires.fits

pub returns : goal.returns
returns c =
    replay_ends c.args.program.now c.args.table.now c.args.point.now _ _ _ _ _ _ (c.as_slice-statements.ensures ∙ c.statements.ensures.value) c.as_slice-starts.ensures
    (c.len-width.ensures ∙ ap length c.columns.ensures) c.new-rows.ensures c.in_ok-keep_starts.ensures c.in_ok-keep_inserted.ensures
