use Rattle.std.proofs.Common.{refl}
use Rattle.qf_certtext.proofs.Cuts.{some_word}
use Rattle.qf_certtext.proofs.words.only_word.Goals as goal

pub returns-in-Some : goal.returns-in-Some
returns-in-Some c =
    let more = some_word c.in-Some.field-0.1.now in rw (c.in-Some.ensures.some, more.2) refl
