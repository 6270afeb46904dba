use Rattle.qf_shell.proofs.Putting.{piece_put, piece_part, at_err}
use Rattle.qf_shell.proofs.delivery.put_file.Goals as goal

pub returns-in_err-put-clause-part : goal.returns-in_err-put-clause-part
returns-in_err-put-clause-part g c =
    at_err c.from_residual.result
    (piece_part c.args.name.now c.args.bytes.now c.loop-rest.rest.now c.split_at.result.0.now _ (g.D.Desk.state c.args.desk.now) (g.D.Desk.state c.loop-rest.desk) (g.D.Desk.state c.put.new.self)
    c.loop-rest.invariant c.split_at.ensures.front c.in_err-put.ensures.part)

pub loop-rest-preserved : goal.loop-rest-preserved
loop-rest-preserved g c =
    let e = c.in_ok-put.ensures in
    piece_put c.args.name.now c.args.bytes.now c.loop-rest.rest.now c.split_at.result.0.now c.split_at.result.1.now _ (g.D.Desk.state c.args.desk.now) (g.D.Desk.state c.loop-rest.desk) (g.D.Desk.state c.put.new.self)
    c.loop-rest.invariant c.split_at.ensures.front c.split_at.ensures.back e.put e.others e.held e.said e.was_read e.counts
