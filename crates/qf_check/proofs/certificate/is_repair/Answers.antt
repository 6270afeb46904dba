use Rattle.std.proofs.Common.{sym}
use Rattle.qf_base.proofs.BoxLaws.{In-is_in}
use Rattle.qf_check.proofs.certificate.is_repair.Goals as goal

pub repairs-requires : goal.repairs-requires
repairs-requires c =
    let inside = rw c.domains.ensures at c.if-not-holds.ensures in
    In-is_in c.args.problem.now.domains.region c.args.point.now (sym inside)
