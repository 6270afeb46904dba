use Rattle.qf_app.specs.Meaning as meaning
use Rattle.qf_app.proofs.Finding.{found_is}
use Rattle.qf_app.proofs.diagnosis.found.Goals as goal

pub returns-in-Ok : goal.returns-in-Ok
returns-in-Ok c =
    let e = c.with_certificate.ensures in
    let solved = c.in_ok-found.ensures c.args.opened.now.root c.requires.searchable.root in
    found_is (meaning.diagnosis c.args.words.now) c.args.log.now c.args.opened.now c.in_ok-found.found c.in-Ok.said.0 c.in-Ok.said.1 c.with_certificate.result
    solved c.in-Ok.ensures e.status (rw c.certificate_of.ensures at e.files) e.line
