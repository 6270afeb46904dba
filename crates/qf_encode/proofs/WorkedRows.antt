-- The row (1, 9500, 10) under UPDATE t SET rate = 30 WHERE income >= 85700, where the second constant may be 80000 to
-- 95000: its circuit, values, hull and system.
use Rattle.std.proofs.Common.{◌≡◌, [], ◌∷◌, List, pos, negsuc, refl}
use Rattle.std.specs.declared.option.Option.TheVariants.{Some}
use Rattle.qf_base.specs.declared.names.RowName.TheVariants.{Start}
use Rattle.qf_base.specs.Values.{Bounds}
use Rattle.qf_circuit.specs.declared.circuit.Def.TheVariants as def
use Rattle.qf_circuit.specs.Circuits.{eval, hull_of}
use Rattle.qf_ir.specs.declared.ast.Atom.TheVariants.{Column, Param}
use Rattle.qf_ir.specs.declared.ast.Term.{Term}
use Rattle.qf_ir.specs.declared.ast.Expr.{Expr}
use Rattle.qf_ir.specs.declared.ast.Expr.TheVariants.{Sum}
use Rattle.qf_ir.specs.declared.ast.Op.TheVariants.{Ge}
use Rattle.qf_ir.specs.declared.ast.Cond.TheVariants.{Compare}
use Rattle.qf_ir.specs.declared.ast.Statement.{Statement}
use Rattle.qf_ir.specs.declared.ast.Statement.TheVariants.{Update}
use Rattle.qf_ir.specs.declared.cell.Cell.TheVariants.{Int}
use Rattle.qf_ir.specs.declared.cell.Goal.TheVariants as goal
use Rattle.qf_ir.specs.Value.{Cells}
use Rattle.qf_encode.specs.declared.coded.Coded.{Coded}
use Rattle.qf_encode.specs.Coding.{circuit_of}
use Rattle.qf_encode.specs.Systems.{system_of}

abbrev one : Term → Expr
one t = Sum (t ∷ [])

abbrev log : List Statement
log =
    Update ((2, one (record { factor = pos 1; atom = Param 1 })) ∷ []) (Some (Compare Ge (one (record { factor = pos 1; atom = Column 1 })) (one (record { factor = pos 1; atom = Param 2 })))) ∷ []

abbrev cells : Cells
cells = Int (pos 1) ∷ Int (pos 9500) ∷ Int (pos 10) ∷ []

abbrev coding : Coded
coding = record {
  circuit = def.Const (pos 1) ∷ def.Const (pos 9500) ∷ def.Const (pos 10) ∷ def.Const (pos 1) ∷ def.Param 2 ∷ def.Linear ((pos 1, 2) ∷ (negsuc 0, 5) ∷ []) (pos 0) ∷ def.AtLeastZero 6 ∷ def.Param 1 ∷ def.Linear ((pos 1, 8) ∷ []) (pos 0) ∷ def.Choose 7 9 3 ∷ [];
  columns = 1 ∷ 2 ∷ 10 ∷ [];
  live = 4;
}

tax_circuit : circuit_of 3 (cells ∷ []) log (Start 1) ≡ Some coding
tax_circuit = refl

tax_values : eval (pos 30 ∷ pos 9000 ∷ []) coding.circuit ≡ pos 1 ∷ pos 9500 ∷ pos 10 ∷ pos 1 ∷ pos 9000 ∷ pos 500 ∷ pos 1 ∷ pos 30 ∷ pos 30 ∷ pos 30 ∷ []
tax_values = refl

abbrev root : Bounds
root = (pos 30, pos 30) ∷ (pos 80000, pos 95000) ∷ []

tax_hull : hull_of root coding.circuit ≡ (pos 1, pos 1) ∷ (pos 9500, pos 9500) ∷ (pos 10, pos 10) ∷ (pos 1, pos 1) ∷ (pos 80000, pos 95000) ∷ (negsuc 85499, negsuc 70499) ∷ (pos 0, pos 0) ∷ (pos 30, pos 30) ∷ (pos 30, pos 30) ∷ (pos 10, pos 10) ∷ []
tax_hull = refl

tax_system : system_of coding root (goal.There (Some (Int (pos 1)) ∷ Some (Int (pos 9500)) ∷ Some (Int (pos 10)) ∷ [])) ≡ record {
  inequalities =
      record { terms = (pos 1, 2) ∷ (negsuc 0, 5) ∷ (negsuc 0, 6) ∷ []; least = pos 0 }
      ∷ record { terms = (negsuc 0, 2) ∷ (pos 1, 5) ∷ (pos 1, 6) ∷ []; least = pos 0 }
      ∷ record { terms = (pos 1, 6) ∷ (negsuc 85499, 7) ∷ []; least = negsuc 85499 }
      ∷ record { terms = (negsuc 0, 6) ∷ (negsuc 70498, 7) ∷ []; least = pos 1 }
      ∷ record { terms = (pos 1, 8) ∷ (negsuc 0, 9) ∷ []; least = pos 0 }
      ∷ record { terms = (negsuc 0, 8) ∷ (pos 1, 9) ∷ []; least = pos 0 }
      ∷ record { terms = (pos 1, 10) ∷ (negsuc 0, 9) ∷ (negsuc 19, 7) ∷ []; least = negsuc 19 }
      ∷ record { terms = (pos 1, 9) ∷ (negsuc 0, 10) ∷ []; least = pos 0 }
      ∷ record { terms = (pos 1, 10) ∷ (negsuc 0, 3) ∷ []; least = pos 0 }
      ∷ record { terms = (pos 1, 3) ∷ (negsuc 0, 10) ∷ []; least = pos 0 }
      ∷ record { terms = (pos 1, 4) ∷ []; least = pos 1 }
      ∷ record { terms = (pos 1, 1) ∷ []; least = pos 1 }
      ∷ record { terms = (negsuc 0, 1) ∷ []; least = negsuc 0 }
      ∷ record { terms = (pos 1, 2) ∷ []; least = pos 9500 }
      ∷ record { terms = (negsuc 0, 2) ∷ []; least = negsuc 9499 }
      ∷ record { terms = (pos 1, 10) ∷ []; least = pos 10 }
      ∷ record { terms = (negsuc 0, 10) ∷ []; least = negsuc 9 }
      ∷ [];
  vars = 10;
  selectors = 7 ∷ [];
}
tax_system = refl
