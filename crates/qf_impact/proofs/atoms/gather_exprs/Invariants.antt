use Rattle.std.proofs.Common.{◌≡◌, ◌++◌, drop}
use Rattle.std.specs.List.{flat_map}
use Rattle.qf_impact.specs.Atoms.{expr_atoms}
use Rattle.qf_impact.proofs.atoms.gather_exprs.Given as goal

abbrev pub invariant-loop-expr : goal.invariant-loop-expr
invariant-loop-expr l = l.atoms.items ++ flat_map expr_atoms (drop l.expr-index l.exprs) ≡ l.fn.atoms.items ++ flat_map expr_atoms l.exprs
