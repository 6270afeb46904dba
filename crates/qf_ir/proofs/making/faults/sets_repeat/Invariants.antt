use Rattle.std.proofs.Common.{◌≡◌, ℕ, drop, map, true}
use Rattle.std.specs.List.{list_all}
use Rattle.qf_ir.specs.declared.ast.Expr.{Expr}
use Rattle.qf_ir.specs.Checked.{is_column}
use Rattle.qf_ir.proofs.Repeats.{Walks}
use Rattle.qf_ir.proofs.making.faults.sets_repeat.Given as goal

-- what is left to walk over, all of it columns
abbrev pub invariant-loop-set : goal.invariant-loop-set
invariant-loop-set l =
    let left = map (λ (s : ℕ × Expr). s.0) (drop l.set-index l.sets) in
    Walks l.seen left (map (λ (s : ℕ × Expr). s.0) l.sets) × (list_all (is_column 32) left ≡ true)
