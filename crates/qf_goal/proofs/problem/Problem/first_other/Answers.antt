use Rattle.std.proofs.Common.{sym, ◌∙◌}
use Rattle.qf_goal.specs.Case.{case_rows}
use Rattle.qf_goal.specs.Kept.{misses_unasked}
use Rattle.qf_goal.proofs.ListLemmas.{find-here, find-next}
use Rattle.qf_goal.proofs.problem.Problem.first_other.Goals as goal

pub returns-then-misses_unasked : goal.returns-then-misses_unasked
returns-then-misses_unasked c =
    find-here (misses_unasked c.args.self.now c.args.point.now) (case_rows c.args.self.now) c.loop-place.place c.row_at-row.result _ c.row_at-row.ensures.row c.loop-place.invariant.1
    (sym c.misses_unasked.ensures.misses ∙ c.if-misses_unasked.true)

pub loop-place-preserved : goal.loop-place-preserved
loop-place-preserved c = (
  c.misses_unasked.ensures.room ∙ c.loop-place.invariant.0,
  find-next (misses_unasked c.args.self.now c.args.point.now) (case_rows c.args.self.now) c.loop-place.place c.row_at-row.result _ c.row_at-row.ensures.row c.loop-place.invariant.1
      (sym c.misses_unasked.ensures.misses ∙ c.if-misses_unasked.false),
)
