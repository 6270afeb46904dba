use Rattle.std.proofs.Common.{◌∙◌, ap, sym, subst, arith}
use Rattle.std.specs.declared.option.Option.{Option}
use Rattle.std.specs.declared.option.Option.TheVariants.{Some}
use Rattle.std.proofs.lemmas.Option.{slice_get-get_or}
use Rattle.qf_ir.specs.Value.{Cells}
use Rattle.qf_ir.specs.Life.{Birth, first_moment, last_moment, ending, ending_of}
use Rattle.qf_ir.specs.Fits.{BirthFits, LifeFits}
use Rattle.qf_replay.proofs.Items.{tuple_fits}
use Rattle.qf_replay.proofs.BirthSteps.{born_by-past, born_by-tuple}
use Rattle.qf_replay.proofs.lives.plays_tuple.Goals as goal

pub returns-then-place-tuples : goal.returns-then-place-tuples
returns-then-place-tuples c =
    sym (ap (λ b. ending_of b c.args.point.now) (born_by-past c.args.width c.args.point.now c.args.columns.now c.args.tuples.now c.args.place c.args.rest.now (omega arith)))

pub insert_cells-requires-clause-fits : goal.insert_cells-requires-clause-fits
insert_cells-requires-clause-fits c =
    rw c.as_slice.ensures
    (tuple_fits c.args.tuples.now c.args.place c.index-tuples-place.result c.args.point.now
    (slice_get-get_or c.args.tuples.now c.args.place c.index-tuples-place.result (omega arith) ∙ ap (λ t. Some t) (sym c.index-tuples-place.is)) c.requires.items)

pub plays-requires-clause-fits : goal.plays-requires-clause-fits
plays-requires-clause-fits c =
    let B : Option Birth → Type 0 = λ b. BirthFits b c.args.point.now in
    let C : Cells → Type 0 = λ cells. LifeFits c.args.rest.now (first_moment cells) c.args.point.now in
    subst C (sym c.insert_cells.ensures)
    (subst B
    (born_by-tuple c.args.width c.args.point.now c.args.columns.now c.args.tuples.now c.args.place c.index-tuples-place.result c.as_slice.result.now c.args.rest.now
    (omega arith) c.index-tuples-place.is c.as_slice.ensures)
    c.requires.fits)

pub returns : goal.returns
returns c =
    c.plays.ensures
    ∙ ap (λ cells. ending (last_moment c.args.point.now c.args.rest.now (first_moment cells))) c.insert_cells.ensures
    ∙ sym (ap (λ b. ending_of b c.args.point.now)
    (born_by-tuple c.args.width c.args.point.now c.args.columns.now c.args.tuples.now c.args.place c.index-tuples-place.result c.as_slice.result.now c.args.rest.now
    (omega arith) c.index-tuples-place.is c.as_slice.ensures))
