use Rattle.std.proofs.Common.{◌∙◌, ◌+◌, refl}
use Rattle.qf_shell.proofs.InOrder.{read_step, long_here, rose_here, same_error, were_read_step, were_read_here}
use Rattle.qf_shell.proofs.Promises.{never_falls, quiet_twice}
use Rattle.qf_shell.proofs.Putting.{at_err}
use Rattle.qf_shell.proofs.files.read_files.Goals as goal

pub returns-in-Err-clause-too_long : goal.returns-in-Err-clause-too_long
returns-in-Err-clause-too_long g c n is =
    let h = c.in-Err.ensures.too_long n (same_error c.in-Err.end _ is) in
    let i = c.loop-input.invariant in
    rw h.0 (long_here (g.D.Desk.state c.args.desk.now) (g.D.Desk.state c.loop-input.desk) c.args.inputs.now c.loop-input.files c.loop-input.input-index _ c.loop-input-test.true i.2 i.0 h.1)

pub returns-in-Err-clause-failed : goal.returns-in-Err-clause-failed
returns-in-Err-clause-failed g c is =
    rose_here (g.D.Desk.state c.args.desk.now) (g.D.Desk.state c.loop-input.desk) (g.D.Desk.state c.read_file.new.desk) c.args.inputs.now c.loop-input.input-index _ c.loop-input-test.true c.loop-input.invariant.4 (c.in-Err.ensures.failed (same_error c.in-Err.end _ is))

pub returns-in-Err-clause-some_read : goal.returns-in-Err-clause-some_read
returns-in-Err-clause-some_read g c =
    let i = c.loop-input.invariant in
    were_read_here (g.D.Desk.state c.args.desk.now) (g.D.Desk.state c.loop-input.desk) (g.D.Desk.state c.read_file.new.desk) c.args.inputs.now c.loop-input.files c.loop-input.input-index i.0 i.1 c.in-Err.ensures.unnoted

pub returns-in_err-push-in-Ok-clause-some_read : goal.returns-in_err-push-in-Ok-clause-some_read
returns-in_err-push-in-Ok-clause-some_read g c =
    let i = c.loop-input.invariant in
    let e = c.in-Ok.ensures in
    let old = g.D.Desk.state c.args.desk.now in
    let mid = g.D.Desk.state c.loop-input.desk in
    let new = g.D.Desk.state c.read_file.new.desk in
    at_err c.from_residual.result
    (were_read_here old new new c.args.inputs.now _ (c.loop-input.input-index + 1)
    (read_step old mid c.args.inputs.now c.loop-input.files c.in-Ok.bytes c.loop-input.input-index _ c.loop-input-test.true i.2 i.0 e.read)
    (were_read_step old mid new c.args.inputs.now c.loop-input.files c.in-Ok.bytes c.loop-input.input-index _ c.loop-input-test.true i.0 i.1 e.noted)
    refl)

pub loop-input-preserved : goal.loop-input-preserved
loop-input-preserved g c =
    let i = c.loop-input.invariant in
    let e = c.in-Ok.ensures in
    let old = g.D.Desk.state c.args.desk.now in
    let mid = g.D.Desk.state c.loop-input.desk in
    let new = g.D.Desk.state c.read_file.new.desk in
    rw c.in_ok-push-in-Ok.ensures.ok (
      read_step old mid c.args.inputs.now c.loop-input.files c.in-Ok.bytes c.loop-input.input-index _ c.loop-input-test.true i.2 i.0 e.read,
      were_read_step old mid new c.args.inputs.now c.loop-input.files c.in-Ok.bytes c.loop-input.input-index _ c.loop-input-test.true i.0 i.1 e.noted,
      e.held ∙ i.2,
      quiet_twice old mid new i.3 e.quiet,
      never_falls old mid new i.4 e.counts,
    )
