use Rattle.std.proofs.Common.{length, refl, ap, sym, ◌∙◌, arith, take}
use Rattle.std.proofs.lemmas.Option.{slice_get_read}
use Rattle.qf_goal.specs.RowPlaces.{rows_in}
use Rattle.qf_goal.proofs.MarkLemmas.{length-marks, marks_step}
use Rattle.qf_goal.proofs.marks.marks_of.Goals as goal

pub fault_in-requires-clause-marks : goal.fault_in-requires-clause-marks
fault_in-requires-clause-marks c = ap length c.loop-i.invariant.0 ∙ length-marks c.args.program.now (take c.loop-i.i (rows_in c.args.complaints.now))

pub set-requires : goal.set-requires
set-requires c = omega (arith, ap length c.loop-i.invariant.0 ∙ length-marks c.args.program.now (take c.loop-i.i (rows_in c.args.complaints.now)))

pub loop-i-preserved : goal.loop-i-preserved
loop-i-preserved c =
    marks_step c.args.program.now c.args.complaints.now _ c.loop-i.i c.from.result c.index-complaints-i.result c.loop-i.marks c.set.new.self
    (slice_get_read c.args.complaints.now (length c.args.complaints.now) c.loop-i.i c.index-complaints-i.result refl c.loop-i-test.true c.index-complaints-i.is)
    c.loop-i.invariant.0 c.loop-i.invariant.1 (sym (c.in-None.ensures.fault _ c.loop-i.invariant.0)) (c.in-None.ensures.exists refl) (c.from.ensures ∙ c.row_place-place.ensures.place) c.set.ensures
