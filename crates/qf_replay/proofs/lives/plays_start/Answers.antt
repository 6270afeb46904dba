use Rattle.std.proofs.Common.{◌≡◌, ◌∙◌, ap, sym, ◌-◌, slice_get, Some}
use Rattle.qf_replay.proofs.Ends.{start_fits, start_ends}
use Rattle.qf_replay.proofs.lives.plays_start.Goals as goal

pub plays-requires-clause-fits : goal.plays-requires-clause-fits
plays-requires-clause-fits c =
    let got : slice_get c.args.table.now.rows (c.args.number - 1) ≡ Some c.at-first.result.now =
    ap (λ n. slice_get c.args.table.now.rows (n - 1)) (sym c.from.ensures) ∙ c.at-first.ensures in
    start_fits c.args.program.now c.args.table.now c.args.point.now c.args.number _ (c.as_slice-2.ensures ∙ c.statements.ensures.value)
    c.requires.belongs c.requires.fits _ _ got (c.copy_from_slice.ensures.after ∙ c.as_slice.ensures)

pub returns : goal.returns
returns c =
    let got : slice_get c.args.table.now.rows (c.args.number - 1) ≡ Some c.at-first.result.now =
    ap (λ n. slice_get c.args.table.now.rows (n - 1)) (sym c.from.ensures) ∙ c.at-first.ensures in
    c.plays.ensures
    ∙ start_ends c.args.program.now c.args.table.now c.args.point.now c.args.number _ (c.as_slice-2.ensures ∙ c.statements.ensures.value)
    c.requires.exists.0 _ _ got (c.copy_from_slice.ensures.after ∙ c.as_slice.ensures)
