use Rattle.std.proofs.Common.{◌≡◌, take}
use Rattle.qf_base.specs.Desk.{NeverFalls}
use Rattle.qf_shell.specs.Delivery.{IsQuiet}
use Rattle.qf_shell.specs.Inputs.{words_of, AreRead, WereRead}
use Rattle.qf_shell.proofs.files.read_files.Given as goal

-- the files so far were read, and the desk stays but for its counts
abbrev pub invariant-loop-input : goal.invariant-loop-input
invariant-loop-input g l =
    let old = g.D.Desk.state l.fn.desk in
    let new = g.D.Desk.state l.desk in
    let words = words_of (take l.input-index l.inputs) in
    AreRead old words l.files × WereRead words l.files old new × (new.held ≡ old.held) × IsQuiet old new × NeverFalls old new
