use Rattle.std.proofs.Common.{sym}
use Rattle.std.proofs.lemmas.Result.{IfOk-weaker}
use Rattle.qf_check.proofs.GroundLemmas.{fits_box, made_is, refuted_is}
use Rattle.qf_check.proofs.grounds.Grounds.refuted_fault.Goals as goal

pub wrong_step-requires : goal.wrong_step-requires
wrong_step-requires c =
    let g = c.args.self.now in
    let is = made_is g.problem.now g.root c.make.new.self c.args.row c.get.result.now c.in_ok-make.ensures.made c.get.ensures in
    record { fits = fits_box g.problem.now g.root c.args.region.now c.args.row c.get.result.now is c.requires.inside }

pub returns-clause-fault : goal.returns-clause-fault
returns-clause-fault c =
    let g = c.args.self.now in
    let made = c.get.result.now in
    let wrong = c.in_ok-wrong_step.field-0 in
    let is = made_is g.problem.now g.root c.make.new.self c.args.row made c.in_ok-make.ensures.made c.get.ensures in
    IfOk-weaker c.line_of.result _ _
    (λ line l. refuted_is g c.args.region.now c.args.row c.args.steps.now made wrong line is (sym c.if-not-has_row.ensures.test) c.in_ok-wrong_step.ensures l)
    c.line_of.ensures
