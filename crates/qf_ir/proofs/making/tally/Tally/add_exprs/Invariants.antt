use Rattle.std.proofs.Common.{◌≡◌, drop}
use Rattle.qf_ir.specs.Tallies.{with_exprs}
use Rattle.qf_ir.proofs.making.tally.Tally.add_exprs.Given as goal

-- the answer for what is left is that for the whole
abbrev pub invariant-loop-expr : goal.invariant-loop-expr
invariant-loop-expr l = with_exprs l.width l.self (drop l.expr-index l.exprs) ≡ with_exprs l.width l.initial.self l.exprs
