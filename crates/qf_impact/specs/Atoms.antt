-- The columns and parameters that an expression or a condition names, in order.
use Rattle.std.specs.Prelude.{List, [], ◌++◌, map}
use Rattle.std.specs.declared.option.Option.{Option}
use Rattle.std.specs.declared.option.Option.TheVariants.{Some, None}
use Rattle.std.specs.List.{flat_map}
use Rattle.qf_ir.specs.declared.ast.Atom.{Atom}
use Rattle.qf_ir.specs.declared.ast.Term.{Term}
use Rattle.qf_ir.specs.declared.ast.Expr.{Expr}
use Rattle.qf_ir.specs.declared.ast.Expr.TheVariants.{Sum, Word}
use Rattle.qf_ir.specs.declared.ast.Cond.{Cond, Row_of-Cond, end_of-Cond, more_of-Cond}
use Rattle.qf_ir.specs.declared.ast.Cond.TheVariants.{Compare, Between, Within, All', Any', Not'}

abbrev pub expr_atoms : Expr → List Atom
expr_atoms (Sum terms) = map (λ (t : Term). t.atom) terms
expr_atoms (Word code) = []

abbrev mutual
  pub cond_atoms : Cond → List Atom
  cond_atoms (Compare op l r) = expr_atoms l ++ expr_atoms r
  cond_atoms (Between x lo hi) = expr_atoms x ++ (expr_atoms lo ++ expr_atoms hi)
  cond_atoms (Within x items) = expr_atoms x ++ flat_map expr_atoms items
  cond_atoms (All' shape parts) = parts_atoms parts
  cond_atoms (Any' shape parts) = parts_atoms parts
  cond_atoms (Not' shape part) = parts_atoms part

  pub parts_atoms : {m : _} → Row_of-Cond m → List Atom
  parts_atoms end_of-Cond = []
  parts_atoms (more_of-Cond part rest) = cond_atoms part ++ parts_atoms rest

abbrev pub where_atoms : Option Cond → List Atom
where_atoms None = []
where_atoms (Some cond) = cond_atoms cond
