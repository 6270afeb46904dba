use Rattle.std.proofs.Common.{◌≡◌, ◌++◌, length}
use Rattle.qf_log.specs.Said.{single_quoted}
use Rattle.qf_log.proofs.words.unquote.Given as goal

abbrev pub invariant-loop-byte : goal.invariant-loop-byte
invariant-loop-byte l = l.into.items ++ single_quoted l.rest ≡ single_quoted l.body

abbrev pub decreases-loop-byte : goal.decreases-loop-byte
decreases-loop-byte l = length l.rest
