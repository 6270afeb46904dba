use Rattle.std.proofs.Common.{◌∙◌, ap, length}
use Rattle.std.proofs.lemmas.Bool.{and_parts}
use Rattle.qf_base.specs.Values.{is_in}
use Rattle.qf_ir.specs.Plan.{Plan}
use Rattle.qf_goal.specs.Case.{mends}
use Rattle.qf_check.proofs.GroundLemmas.{stated_long}
use Rattle.qf_check.proofs.grounds.Grounds.dear_is_right.Goals as goal

pub is_no_better-requires-clause-point : goal.is_no_better-requires-clause-point
is_no_better-requires-clause-point c =
    let case = c.args.self.now.problem.now in
    let p = c.in-Repair.point in
    let parts = and_parts (is_in case.domains.region p) (mends case p) (rw c.in-Repair.is at c.requires.grounds.stated) in
    let olds = c.olds-olds.ensures ∙ ap (λ (p : Plan). p.olds) c.program.ensures.value in
    ap length olds ∙ stated_long case p c.program.ensures.sound parts.0

pub is_no_better-requires-in-Best-clause-point : goal.is_no_better-requires-in-Best-clause-point
is_no_better-requires-in-Best-clause-point c =
    let case = c.args.self.now.problem.now in
    let p = c.in-Best.point in
    let parts = and_parts (is_in case.domains.region p) (mends case p) (rw c.in-Best.is at c.requires.grounds.stated) in
    let olds = c.olds-olds.ensures ∙ ap (λ (p : Plan). p.olds) c.program.ensures.value in
    ap length olds ∙ stated_long case p c.program.ensures.sound parts.0
