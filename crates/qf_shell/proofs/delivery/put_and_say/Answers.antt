use Rattle.qf_shell.proofs.Putting.{line_whole, line_part, on_ok, on_err}
use Rattle.qf_shell.proofs.delivery.put_and_say.Goals as goal

pub returns-clause-whole : goal.returns-clause-whole
returns-clause-whole g c =
    let e = c.in_ok-put_files.ensures in
    on_ok c.say.result
    (line_whole c.args.answer.now (g.D.Desk.state c.args.desk.now) (g.D.Desk.state c.put_files.new.desk) (g.D.Desk.state c.say.new.self)
    (rw c.as_slice.ensures at e.put) e.said c.say.ensures.made)
    (rw c.as_slice-2.ensures at c.say.ensures.said)

pub returns-clause-part : goal.returns-clause-part
returns-clause-part g c =
    let e = c.in_ok-put_files.ensures in
    on_err c.say.result
    (line_part c.args.answer.now (g.D.Desk.state c.args.desk.now) (g.D.Desk.state c.put_files.new.desk) (g.D.Desk.state c.say.new.self)
    (rw c.as_slice.ensures at e.put) e.said c.say.ensures.made)
    (rw c.as_slice-2.ensures at c.say.ensures.part)
