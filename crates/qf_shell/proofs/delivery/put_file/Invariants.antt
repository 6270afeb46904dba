use Rattle.std.proofs.Common.{length}
use Rattle.qf_shell.proofs.Putting.{PutSoFar}
use Rattle.qf_shell.proofs.delivery.put_file.Given as goal

abbrev pub invariant-loop-rest : goal.invariant-loop-rest
invariant-loop-rest g l = PutSoFar l.name l.bytes l.rest (g.D.Desk.state l.fn.desk) (g.D.Desk.state l.desk)

abbrev pub decreases-loop-rest : goal.decreases-loop-rest
decreases-loop-rest g l = length l.rest
