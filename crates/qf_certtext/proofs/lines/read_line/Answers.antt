use Rattle.qf_certtext.proofs.Found.{line_found}
use Rattle.qf_certtext.proofs.lines.read_line.Goals as goal

pub returns : goal.returns
returns c = line_found c.args.bytes.now c.read_words.result c.read_words.ensures
