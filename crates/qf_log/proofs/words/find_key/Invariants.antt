use Rattle.std.proofs.Common.{◌≡◌, drop, map}
use Rattle.qf_log.specs.Said.{entry_of, key_in}
use Rattle.qf_log.proofs.words.find_key.Given as goal

abbrev pub invariant-loop-entry : goal.invariant-loop-entry
invariant-loop-entry l = key_in (map entry_of (drop l.entry-index l.entries)) l.word ≡ key_in (map entry_of l.entries) l.word
