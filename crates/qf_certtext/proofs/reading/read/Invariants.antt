use Rattle.std.proofs.Common.{◌+◌}
use Rattle.qf_certtext.proofs.InText.{InText}
use Rattle.qf_certtext.proofs.Accepting.{NotWhole}
use Rattle.qf_certtext.proofs.reading.read.Given as goal

abbrev pub invariant-loop-lines : goal.invariant-loop-lines
invariant-loop-lines l = InText l.bytes l.rest l.draft (l.lines + 1) × NotWhole l.draft
