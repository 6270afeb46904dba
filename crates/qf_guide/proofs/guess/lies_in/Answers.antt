use Rattle.std.proofs.Common.{◌≡◌, true}
use Rattle.qf_base.specs.Values.{is_in}
use Rattle.qf_base.proofs.BoxLaws.{In-is_in}
use Rattle.qf_guide.proofs.guess.lies_in.Goals as goal

pub returns : goal.returns
returns c = λ e.
    let h : is_in c.args.problem.now.domains.region c.args.point.now ≡ true = cc in
    In-is_in c.args.problem.now.domains.region c.args.point.now h
