use Rattle.std.proofs.Common.{◌≡◌, drop}
use Rattle.qf_ir.specs.Tallies.{with_sets}
use Rattle.qf_ir.proofs.making.tally.Tally.add_sets.Given as goal

-- the answer for what is left is that for the whole
abbrev pub invariant-loop-set : goal.invariant-loop-set
invariant-loop-set l = with_sets l.kinds l.self (drop l.set-index l.sets) ≡ with_sets l.kinds l.initial.self l.sets
