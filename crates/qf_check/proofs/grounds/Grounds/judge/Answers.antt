use Rattle.std.proofs.Common.{◌∙◌, sym}
use Rattle.qf_check.proofs.Judged.{judged_valid}
use Rattle.qf_check.proofs.grounds.Grounds.judge.Goals as goal

pub returns : goal.returns
returns c =
    let g = c.args.self.now in
    let right = sym c.in_ok-answer_is_right.ensures ∙ c.if-not-branch.false in
    let told = rw c.as_slice.ensures at c.in_ok-run.ensures.told in
    judged_valid g c.args.region.now c.args.cert.now c.requires.answer right c.in_ok-walk.walk c.run.new.self c.verdict.result c.requires.spelled c.in_ok-walk.ensures told (sym c.if-not-end_is_right.ensures) c.verdict.ensures
