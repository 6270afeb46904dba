-- One row with a cell 0, UPDATE t SET a = a + 5 where the constant may be 0 to 10, and the wish a = 9: a certificate
-- that is accepted, and changes of it, each rejected at its line.
use Rattle.std.proofs.Common.{◌≡◌, Bool, false, ◌==◌, List, [], ◌∷◌, ℤ, pos, slice_index_or, Some, None, refl}
use Rattle.std.specs.declared.option.Option.TheVariants as option
use Rattle.std.specs.Ordering.{int_eq}
use Rattle.qf_base.specs.Values.{Bounds}
use Rattle.qf_base.specs.declared.names.RowName.{RowName}
use Rattle.qf_base.specs.declared.names.RowName.TheVariants.{Start, Inserted}
use Rattle.qf_base.specs.declared.names.Bound.TheVariants.{Low}
use Rattle.qf_lin.specs.declared.step.Step.TheVariants.{Tight, Empty}
use Rattle.qf_circuit.specs.declared.circuit.Def.TheVariants as def
use Rattle.qf_circuit.specs.Circuits.{hull_of}
use Rattle.qf_tree.specs.declared.tree.Node.{Node}
use Rattle.qf_tree.specs.declared.tree.Node.TheVariants.{Split, Refuted, Dear, Open}
use Rattle.qf_tree.specs.declared.cert.Answer.{Answer}
use Rattle.qf_tree.specs.declared.cert.Answer.TheVariants.{Repair, Nothing, Budget}
use Rattle.qf_tree.specs.declared.cert.Cert.{Cert}
use Rattle.qf_tree.specs.Certificates.{Instance, first_bad_line, at_least}
use Rattle.qf_ir.specs.declared.ast.Atom.TheVariants.{Column, Param}
use Rattle.qf_ir.specs.declared.ast.Expr.TheVariants.{Sum}
use Rattle.qf_ir.specs.declared.ast.Statement.{Statement}
use Rattle.qf_ir.specs.declared.ast.Statement.TheVariants.{Update}
use Rattle.qf_ir.specs.declared.cell.Cell.TheVariants.{Int}
use Rattle.qf_ir.specs.declared.cell.Goal.TheVariants as goal
use Rattle.qf_encode.specs.declared.coded.Coded.{Coded}
use Rattle.qf_encode.specs.Coding.{circuit_of}
use Rattle.qf_encode.specs.Systems.{system_of}

abbrev log : List Statement
log =
    Update ((0, Sum (record { factor = pos 1; atom = Column 0 } ∷ record { factor = pos 1; atom = Param 1 } ∷ [])) ∷ []) option.None ∷ []

abbrev coding : Coded
coding = record {
  circuit = def.Const (pos 0) ∷ def.Const (pos 1) ∷ def.Param 1 ∷ def.Linear ((pos 1, 1) ∷ (pos 1, 3) ∷ []) (pos 0) ∷ [];
  columns = 4 ∷ [];
  live = 2;
}

circuit : circuit_of 1 ((Int (pos 0) ∷ []) ∷ []) log (Start 1) ≡ option.Some coding
circuit = refl

abbrev root : Bounds
root = (pos 0, pos 10) ∷ []

abbrev is_first : RowName → Bool
is_first (Start n) = n == 1
is_first (Inserted n) = false

abbrev instance : Instance
instance = record {
  olds = pos 5 ∷ [];
  domains = root;
  root = root;
  is_needed = λ k. k == 1;
  has_row = is_first;
  repairs = λ p. int_eq (slice_index_or p 0 (pos 0)) (pos 9);
  system = λ row. system_of coding root (goal.There (option.Some (Int (pos 9)) ∷ []));
  hull = λ row region. hull_of region coding.circuit;
}

abbrev cert : Answer → ℤ → ℤ → Node → Cert
cert answer cut bound last = record {
  answer = answer;
  tree = record { nodes = Split 1 cut (Start 1) ∷ Refuted (Start 1) (Tight 4 4 (Low bound) ∷ Empty ∷ []) ∷ last ∷ [] };
}

accepted : first_bad_line instance root (cert (Repair (pos 9 ∷ [])) (pos 8) (pos 9) Dear) ≡ None
accepted = refl

bound_too_strong : first_bad_line instance root (cert (Repair (pos 9 ∷ [])) (pos 8) (pos 10) Dear) ≡ Some 5
bound_too_strong = refl

bound_too_weak : first_bad_line instance root (cert (Repair (pos 9 ∷ [])) (pos 8) (pos 8) Dear) ≡ Some 6
bound_too_weak = refl

no_repair : first_bad_line instance root (cert (Repair (pos 8 ∷ [])) (pos 8) (pos 9) Dear) ≡ Some 2
no_repair = refl

dear_under_none : first_bad_line instance root (cert Nothing (pos 8) (pos 9) Dear) ≡ Some 7
dear_under_none = refl

wrong_cut : first_bad_line instance root (cert (Repair (pos 9 ∷ [])) (pos 7) (pos 9) Dear) ≡ Some 7
wrong_cut = refl

left_open : first_bad_line instance root (cert (Repair (pos 9 ∷ [])) (pos 8) (pos 9) Open) ≡ Some 7
left_open = refl

under_budget : at_least instance root (cert Budget (pos 8) (pos 9) Open) ≡ 4
under_budget = refl
