use Rattle.std.proofs.Common.{subst}
use Rattle.std.specs.List.{AllByRecursion}
use Rattle.qf_ir.specs.Plan.{RowExists}
use Rattle.qf_goal.specs.Case.{Case}
use Rattle.qf_goal.proofs.KeptLemmas.{kept_exist}
use Rattle.qf_goal.proofs.problem.Problem.complained_rows.Goals as goal

pub returns-clause-exist : goal.returns-clause-exist
returns-clause-exist c =
    let P : Case → Type 0 = λ case. AllByRecursion (RowExists case.plan) c.self.inside.aims.complained in
    subst P c.self.view_is (kept_exist _ c.self.inside.aims.complained c.self.invariant.sound c.self.invariant.aims.complained)
