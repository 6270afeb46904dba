use Rattle.std.proofs.Common.{◌∙◌, sym}
use Rattle.qf_certtext.proofs.Cuts.{line_numbered}
use Rattle.qf_certtext.specs.Words.{words_of}
use Rattle.qf_certtext.proofs.lines.read_words.Goals as goal

pub returns-else-is_answer : goal.returns-else-is_answer
returns-else-is_answer c =
    c.numbered_line.ensures ∙ line_numbered c.in-Some.kind.now c.in-Some.rest.now (words_of c.args.bytes.now) c.in-Some.ensures.some (sym c.if-is_answer.ensures)
