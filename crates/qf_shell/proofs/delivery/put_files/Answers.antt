use Rattle.std.proofs.Common.{◌∙◌}
use Rattle.qf_shell.proofs.Promises.{never_falls}
use Rattle.qf_shell.proofs.Putting.{put_step, put_here, put_rose}
use Rattle.qf_shell.proofs.delivery.put_files.Goals as goal

pub returns-in-Err-clause-part : goal.returns-in-Err-clause-part
returns-in-Err-clause-part g c =
    let e = c.in-Err.ensures in
    put_here (g.D.Desk.state c.args.desk.now) (g.D.Desk.state c.loop-file.desk) (g.D.Desk.state c.put_file.new.desk) c.args.files.now c.loop-file.file-index c.file-item.result c.as_str.result.now c.as_slice.result.now
    c.loop-file-test.true c.file-item.is c.as_str.ensures c.as_slice.ensures c.loop-file.invariant.0 e.others e.part

pub returns-in-Err-clause-failed : goal.returns-in-Err-clause-failed
returns-in-Err-clause-failed g c is =
    put_rose (g.D.Desk.state c.args.desk.now) (g.D.Desk.state c.loop-file.desk) (g.D.Desk.state c.put_file.new.desk) c.args.files.now c.loop-file.file-index c.file-item.result c.as_str.result.now
    c.loop-file-test.true c.file-item.is c.as_str.ensures c.loop-file.invariant.4 (c.in-Err.ensures.failed is)

pub loop-file-preserved : goal.loop-file-preserved
loop-file-preserved g c =
    let e = c.in_default.ensures in
    let i = c.loop-file.invariant in (
      put_step (g.D.Desk.state c.args.desk.now) (g.D.Desk.state c.loop-file.desk) (g.D.Desk.state c.put_file.new.desk) c.args.files.now c.loop-file.file-index c.file-item.result c.as_str.result.now c.as_slice.result.now
          c.loop-file-test.true c.file-item.is c.as_str.ensures c.as_slice.ensures i.0 e.others e.put,
      e.held ∙ i.1,
      e.said ∙ i.2,
      e.was_read ∙ i.3,
      never_falls (g.D.Desk.state c.args.desk.now) (g.D.Desk.state c.loop-file.desk) (g.D.Desk.state c.put_file.new.desk) i.4 e.counts,
    )
