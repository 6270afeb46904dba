use Rattle.qf_app.proofs.Alone.{never_faulty}
use Rattle.qf_app.proofs.replaying.olds_alone.Goals as goal

pub unreachable-requires : goal.unreachable-requires
unreachable-requires c = never_faulty c.args.olds.now c.in-Err.fault (rw c.new.ensures at c.in-Err.ensures.fault c.in_default.not-NoMemory)
