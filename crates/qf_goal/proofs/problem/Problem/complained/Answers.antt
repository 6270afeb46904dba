use Rattle.std.proofs.Common.{length, slice_get, sym, ap, ◌∙◌, arith, subst}
use Rattle.std.specs.Option.{is_some}
use Rattle.qf_ir.specs.Plan.{RowExists}
use Rattle.qf_goal.specs.Case.{Case, is_complained}
use Rattle.qf_goal.specs.RowPlaces.{plan_rows, asked_rows}
use Rattle.qf_goal.proofs.RowLemmas.{row-at-place}
use Rattle.qf_goal.proofs.MarkLemmas.{length-marks}
use Rattle.qf_goal.proofs.AskLemmas.{mark-there}
use Rattle.qf_goal.proofs.KeptLemmas.{complained_is}
use Rattle.qf_goal.proofs.problem.Problem.complained.Goals as goal

pub at-requires : goal.at-requires
at-requires c =
    let inside = c.self.inside in
    omega (arith, ap length c.self.invariant.marks ∙ length-marks inside.program (asked_rows inside.asks))

pub returns : goal.returns
returns c =
    let inside = c.self.inside in
    let P : Case → Type 0 = λ case. RowExists case.plan c.args.row in
    c.is_some.ensures
    ∙ ap is_some (mark-there inside.program (asked_rows inside.asks) inside.marks c.from.result c.args.row c.at.result.now
    (ap (slice_get (plan_rows inside.program)) (c.from.ensures ∙ c.row_place-place.ensures.place) ∙ row-at-place inside.program c.args.row (subst P (sym c.self.view_is) c.requires)) c.self.invariant.marks c.at.ensures)
    ∙ complained_is inside.asks c.args.row
    ∙ ap (λ case. is_complained case c.args.row) c.self.view_is
