use Rattle.std.proofs.Common.{◌≡◌, ◌++◌, drop}
use Rattle.qf_certtext.specs.Spelling.{value_texts}
use Rattle.qf_certtext.proofs.writing.add_values.Given as goal

abbrev pub invariant-loop-value : goal.invariant-loop-value
invariant-loop-value l = l.text ++ value_texts (drop l.value-index l.values) ≡ l.fn.text ++ value_texts l.values
