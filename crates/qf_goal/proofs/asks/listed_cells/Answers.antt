use Rattle.std.proofs.Common.{◌≡◌, length, refl, ap, sym, ◌∙◌, arith, take}
use Rattle.std.proofs.lemmas.List.{length-take}
use Rattle.std.proofs.lemmas.Option.{slice_get_read}
use Rattle.qf_ir.specs.Texts.{with_texts}
use Rattle.qf_ir.specs.Plan.{Plan}
use Rattle.qf_goal.specs.Asked.{text_in, listed_cell, place_of}
use Rattle.qf_goal.proofs.TextLemmas.{length-joined, length-texts_in, joined_step, cell_stays}
use Rattle.qf_goal.proofs.asks.listed_cells.Goals as goal

pub listed-requires-clause-texts : goal.listed-requires-clause-texts
listed-requires-clause-texts c =
    omega (
      arith,
      length-joined text_in c.args.program.now c.loop-value.program c.args.stated.now c.loop-value.value-index c.loop-value.invariant.0,
      length-texts_in (take c.loop-value.value-index c.args.stated.now),
      length-take c.loop-value.value-index c.args.stated.now,
    )

pub loop-value-preserved : goal.loop-value-preserved
loop-value-preserved c =
    joined_step text_in listed_cell c.args.program.now c.args.stated.now c.loop-value.value-index c.value-item.result c.loop-value.program c.listed.new.program c.loop-value.cells c.push.new.self c.in_ok-listed.field-0
    (slice_get_read c.args.stated.now (length c.args.stated.now) c.loop-value.value-index c.value-item.result refl c.loop-value-test.true c.value-item.is)
    c.loop-value.invariant.0 c.loop-value.invariant.1
    (λ more.
    let texts_are : c.listed.new.program.texts ≡ with_texts c.loop-value.program.texts (text_in c.value-item.result) = ap (λ (p : Plan). p.texts) (c.in_ok-listed.ensures.plan) in
    c.in_ok-listed.ensures.listed
    ∙ ap (λ cell. (place_of c.loop-value.program.columns c.value-item.result.0, cell)) (sym (cell_stays c.loop-value.program.texts more c.value-item.result.1))
    ∙ ap (λ texts. listed_cell c.loop-value.program.columns (with_texts texts more) c.value-item.result) (sym texts_are))
    (c.in_ok-listed.ensures.plan) (c.in_ok-push.ensures.ok)
