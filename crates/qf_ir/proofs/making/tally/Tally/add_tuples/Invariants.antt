use Rattle.std.proofs.Common.{◌≡◌, drop}
use Rattle.qf_ir.specs.Tallies.{with_tuples}
use Rattle.qf_ir.proofs.making.tally.Tally.add_tuples.Given as goal

-- the answer for what is left is that for the whole
abbrev pub invariant-loop-tuple : goal.invariant-loop-tuple
invariant-loop-tuple l = with_tuples l.kinds l.columns l.self (drop l.tuple-index l.tuples) ≡ with_tuples l.kinds l.columns l.initial.self l.tuples
