use Rattle.qf_app.specs.Answers.{answers_of}
use Rattle.qf_app.specs.Meaning.{meaning_of}
use Rattle.qf_app.specs.Request.{input_words, output_words}
use Rattle.qf_shell.proofs.Promises.{ended, err_is}
use Rattle.qf_app.proofs.Ending.{answered}
use Rattle.qf_app.proofs.work.work.Goals as goal

pub returns-in-Err-read_files : goal.returns-in-Err-read_files
returns-in-Err-read_files g c =
    let request = meaning_of c.args.command.now in
    let e = rw (c.as_slice.ensures, c.in-Ok.ensures) at c.in-Err-read_files.ensures in
    ended (input_words request) (output_words request) (answers_of request) (g.D.Desk.state c.args.desk.now) (g.D.Desk.state c.read_files.new.desk) (g.D.Desk.state c.deliver_end.new.desk)
    c.in-Err-read_files.end c.deliver_end.result
    (λ n is. e.too_long n (err_is _ _ is)) (λ is. e.failed (err_is _ _ is))
    (record { held = e.held; quiet = e.quiet; reads = e.some_read; counts = e.counts })
    c.deliver_end.ensures

pub returns-in-Ok-answer_to : goal.returns-in-Ok-answer_to
returns-in-Ok-answer_to g c =
    let request = meaning_of c.args.command.now in
    let e = rw (c.as_slice.ensures, c.in-Ok.ensures) at c.in-Ok-read_files.ensures in
    let answer = rw c.as_slice-2.ensures at c.in-Ok-answer_to.ensures in
    answered request c.in-Ok-read_files.files
    (g.D.Desk.state c.args.desk.now) (g.D.Desk.state c.read_files.new.desk) (g.D.Desk.state c.deliver.new.desk)
    c.in-Ok-answer_to.answer c.deliver.result
    e.read e.were_read
    (record { held = e.held; quiet = e.quiet; reads = (c.in-Ok-read_files.files, e.were_read); counts = e.counts })
    answer c.deliver.ensures
