use Rattle.std.proofs.Common.{◌<◌, length, slice_get, Some, sym, ap, ◌∙◌, arith, subst}
use Rattle.qf_goal.specs.Case.{Case, case_rows}
use Rattle.qf_goal.proofs.KeptLemmas.{rows-length, row-of-case}
use Rattle.qf_goal.proofs.problem.Problem.row_at.Goals as goal

pub row_at-requires-clause-within : goal.row_at-requires-clause-within
row_at-requires-clause-within c =
    let P : Case → Type 0 = λ case. c.args.place < length (case_rows case) in
    omega (arith, subst P (sym c.self.view_is) c.requires, rows-length _ c.self.invariant.sound)

pub returns-clause-row : goal.returns-clause-row
returns-clause-row c =
    let P : Case → Type 0 = λ case. c.args.place < length (case_rows case) in
    ap (λ case. slice_get (case_rows case) c.args.place) (sym c.self.view_is)
    ∙ row-of-case _ c.args.place c.self.invariant.sound (subst P (sym c.self.view_is) c.requires) ∙ ap Some (sym c.row_at.ensures.row)
