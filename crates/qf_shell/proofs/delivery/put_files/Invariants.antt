use Rattle.std.proofs.Common.{◌≡◌, take}
use Rattle.qf_base.specs.Desk.{NeverFalls}
use Rattle.qf_shell.specs.Delivery.{put_size, ArePut}
use Rattle.qf_shell.proofs.delivery.put_files.Given as goal

-- the files so far were put, and the desk stays otherwise but for its counts
abbrev pub invariant-loop-file : goal.invariant-loop-file
invariant-loop-file g l =
    let old = g.D.Desk.state l.fn.desk in
    let new = g.D.Desk.state l.desk in
    let done = take l.file-index l.files in
    ArePut (put_size done) done old new
    × (new.held ≡ old.held) × (new.said ≡ old.said) × (new.was_read ≡ old.was_read) × NeverFalls old new
