use Rattle.qf_app.specs.Meaning as meaning
use Rattle.qf_app.proofs.Finding.{least_found, says_repair, says_none}
use Rattle.qf_app.proofs.Splicing.{is_point_of}
use Rattle.qf_app.proofs.diagnosis.said.Goals as goal

pub repaired-requires-clause-point : goal.repaired-requires-clause-point
repaired-requires-clause-point c =
    let opened = c.args.opened.now in
    let sound = c.note_sound.ensures.sound in
    is_point_of opened.log opened.problem c.in-Repair.point c.requires.read.olds sound c.note_sound.ensures.ends
    (least_found opened.problem opened.root c.args.words.now.budget c.args.found.now c.in-Repair.point c.in-Repair.field-1 sound c.requires.searchable.root c.in-Repair.is c.requires.solved)

pub returns-in_ok-repaired-in-Repair : goal.returns-in_ok-repaired-in-Repair
returns-in_ok-repaired-in-Repair c =
    let e = c.in_ok-repaired-in-Repair.ensures in
    says_repair (meaning.diagnosis c.args.words.now) c.args.log.now c.args.opened.now c.args.found.now c.note_sound.ensures.sound c.requires.searchable.root c.requires.solved
    c.in-Repair.point c.in-Repair.field-1 c.in_ok-repaired-in-Repair.field-0 c.in-Repair.is e.text e.says

pub returns-in_ok-from_slice-in-Nothing : goal.returns-in_ok-from_slice-in-Nothing
returns-in_ok-from_slice-in-Nothing c =
    says_none (meaning.diagnosis c.args.words.now) c.args.log.now c.args.opened.now c.args.found.now c.note_sound.ensures.sound c.requires.searchable.root c.requires.solved
    c.in-Nothing.field-0 c.in_ok-from_slice-in-Nothing.field-0 c.in-Nothing.is (λ none. record { none = none; line_is = c.in_ok-from_slice-in-Nothing.ensures })
