use Rattle.std.proofs.Common.{◌≡◌, ◌==◌, List, length, drop}
use Rattle.std.specs.List.{list_all}
use Rattle.qf_ir.specs.declared.ast.Expr.{Expr}
use Rattle.qf_ir.proofs.making.faults.have_length.Given as goal

-- the answer for what is left is that for the whole
abbrev pub invariant-loop-tuple : goal.invariant-loop-tuple
invariant-loop-tuple l = list_all (λ (tuple : List Expr). length tuple == l.len) (drop l.tuple-index l.tuples) ≡ list_all (λ (tuple : List Expr). length tuple == l.len) l.tuples
