use Rattle.std.proofs.Common.{◌≤◌, ℕ, List, [], length, refl, ap, ◌∙◌, arith}
use Rattle.std.specs.List.{flat_map}
use Rattle.std.proofs.lemmas.List.{take_all}
use Rattle.std.proofs.lemmas.List.Folds.{length-flat_map-take}
use Rattle.std.proofs.lemmas.Option.{slice_get_read}
use Rattle.qf_forms.specs.Stated.{stated_by}
use Rattle.qf_forms.specs.declared.complaint.Complaint.{Complaint}
use Rattle.qf_goal.specs.Asked.{text_in, ask_of, asks_of}
use Rattle.qf_goal.proofs.ListLemmas.{each-at}
use Rattle.qf_goal.proofs.TextLemmas.{length-joined, length-stated_texts, joined_step}
use Rattle.qf_goal.proofs.asks.asks_of.Goals as goal

pub ask_of-requires-clause-texts : goal.ask_of-requires-clause-texts
ask_of-requires-clause-texts c =
    let texts_of : Complaint → List (List ℕ) = λ (complaint : Complaint). flat_map text_in (stated_by complaint.wish) in
    let at = slice_get_read c.args.complaints.now (length c.args.complaints.now) c.loop-complaint.complaint-index c.complaint-item.result refl c.loop-complaint-test.true c.complaint-item.is in
    omega (
      arith,
      length-joined texts_of c.args.program.now c.loop-complaint.program c.args.complaints.now c.loop-complaint.complaint-index c.loop-complaint.invariant.0,
      length-flat_map-take texts_of c.args.complaints.now c.loop-complaint.complaint-index c.complaint-item.result c.loop-complaint-test.true,
      length-stated_texts c.args.complaints.now c.requires.few_cells,
      each-at (λ (complaint : Complaint). length (stated_by complaint.wish) ≤ 32) c.args.complaints.now c.loop-complaint.complaint-index c.complaint-item.result c.requires.few_cells at,
    )

pub loop-complaint-preserved : goal.loop-complaint-preserved
loop-complaint-preserved c =
    joined_step (λ (complaint : Complaint). flat_map text_in (stated_by complaint.wish)) (λ columns texts (complaint : Complaint). (complaint.row, ask_of columns texts complaint.wish))
    c.args.program.now c.args.complaints.now c.loop-complaint.complaint-index c.complaint-item.result c.loop-complaint.program c.ask_of.new.program c.loop-complaint.asks c.push.new.self (c.complaint-item.result.row, c.in_ok-ask_of.field-0)
    (slice_get_read c.args.complaints.now (length c.args.complaints.now) c.loop-complaint.complaint-index c.complaint-item.result refl c.loop-complaint-test.true c.complaint-item.is)
    c.loop-complaint.invariant.0 c.loop-complaint.invariant.1
    (λ more. ap (λ ask. (c.complaint-item.result.row, ask)) (c.in_ok-ask_of.ensures.ask more))
    (c.in_ok-ask_of.ensures.plan) (c.in_ok-push.ensures.ok)

pub returns-clause-asks : goal.returns-clause-asks
returns-clause-asks c =
    c.loop-complaint.invariant.1 [] ∙ ap (asks_of c.args.program.now.columns c.loop-complaint.program.texts) (take_all c.loop-complaint.complaint-index c.args.complaints.now (omega arith))
