use Rattle.qf_app.proofs.Completion.{complete_for}
use Rattle.qf_app.specs.Meaning.{meaning_of}
use Rattle.qf_app.specs.Request.{request_of}
use Rattle.qf_app.proofs.top.run.Goals as goal

pub returns-in-Some-clause-complete : goal.returns-in-Some-clause-complete
returns-in-Some-clause-complete g c =
    complete_for (request_of c.args.words.now) (meaning_of c.in-Some.command) (g.D.Desk.state c.args.desk.now) (g.D.Desk.state c.work.new.desk) c.work.result
    c.in-Some.ensures c.work.ensures
