use Rattle.std.proofs.Common.{◌≡◌, drop}
use Rattle.std.specs.List.{flat_map}
use Rattle.qf_ir.specs.Parts.{tests_of}
use Rattle.qf_ir.specs.Tallies.{with_tests}
use Rattle.qf_ir.proofs.making.tally.Tally.+tally.Given as goal

-- the tally of what is left is that of the whole
abbrev pub invariant-add_conds-loop-cond : goal.invariant-add_conds-loop-cond
invariant-add_conds-loop-cond l = with_tests l.kinds l.self (flat_map tests_of (drop l.cond-index l.conds)) ≡ with_tests l.kinds l.initial.self (flat_map tests_of l.conds)
