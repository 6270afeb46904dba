use Rattle.std.proofs.Common.{◌≡◌, ◌∙◌, ap, sym, arith, ◌-◌, length, slice_get}
use Rattle.std.specs.declared.option.Option.TheVariants.{Some}
use Rattle.qf_ir.specs.Plan.{final_outcome}
use Rattle.qf_replay.specs.BirthPlaces.{births_of}
use Rattle.qf_ir.specs.Replay.{inserted_count}
use Rattle.qf_replay.proofs.Ends.{items_fit, born_fits, born_ends}
use Rattle.qf_replay.proofs.lives.plays_alone.Goals as goal

pub find_birth-birth-requires-clause-exists : goal.find_birth-birth-requires-clause-exists
find_birth-birth-requires-clause-exists c =
    let exists = rw c.in-Inserted.is at c.requires.exists in
    let many = ap inserted_count (c.as_slice-statements.ensures ∙ c.statements.ensures.value) ∙ sym c.statements.ensures.sound.inserted in
    omega (arith, exists.0, exists.1, many)

pub plays_born-requires-clause-items : goal.plays_born-requires-clause-items
plays_born-requires-clause-items c =
    items_fit c.args.program.now c.args.table.now c.args.point.now c.in-Inserted.number _ (c.as_slice-statements.ensures ∙ c.statements.ensures.value) c.requires.fits

pub plays_born-requires-clause-fits : goal.plays_born-requires-clause-fits
plays_born-requires-clause-fits c =
    let found : slice_get (births_of c.args.program.now.statements) (c.in-Inserted.number - 1) ≡ Some c.find_birth-birth.result =
    ap (λ ss. slice_get (births_of ss) (c.in-Inserted.number - 1)) (sym (c.as_slice-statements.ensures ∙ c.statements.ensures.value)) ∙ c.find_birth-birth.ensures in
    born_fits c.args.program.now c.args.table.now c.args.point.now c.in-Inserted.number _ (c.as_slice-statements.ensures ∙ c.statements.ensures.value)
    c.len-width.result (c.len-width.ensures ∙ ap length c.columns.ensures) c.find_birth-birth.result found c.requires.belongs c.requires.fits

pub returns-in-Inserted : goal.returns-in-Inserted
returns-in-Inserted c =
    let exists = rw c.in-Inserted.is at c.requires.exists in
    let found : slice_get (births_of c.args.program.now.statements) (c.in-Inserted.number - 1) ≡ Some c.find_birth-birth.result =
    ap (λ ss. slice_get (births_of ss) (c.in-Inserted.number - 1)) (sym (c.as_slice-statements.ensures ∙ c.statements.ensures.value)) ∙ c.find_birth-birth.ensures in
    c.plays_born.ensures
    ∙ born_ends c.args.program.now c.args.table.now c.args.point.now c.in-Inserted.number _ (c.as_slice-statements.ensures ∙ c.statements.ensures.value)
    c.len-width.result (c.len-width.ensures ∙ ap length c.columns.ensures) c.find_birth-birth.result found exists.0
    ∙ ap (λ row. final_outcome c.args.program.now c.args.table.now row c.args.point.now) (sym c.in-Inserted.is)
