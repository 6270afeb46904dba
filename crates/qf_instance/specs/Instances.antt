-- What certificates for a problem speak of.
use Rattle.std.specs.Prelude.{◌≡◌, ℕ, ◌-◌, nat_le, Bool, ◌&&◌, List, [], length}
use Rattle.std.specs.Bool.{Decides}
use Rattle.std.specs.declared.option.Option.{Option}
use Rattle.std.specs.declared.option.Option.TheVariants.{Some, None}
use Rattle.qf_base.specs.declared.names.RowName.{RowName}
use Rattle.qf_base.specs.Values.{Bounds}
use Rattle.qf_lin.specs.declared.inequality.System.{System}
use Rattle.qf_circuit.specs.Circuits.{hull_of}
use Rattle.qf_ir.specs.declared.cell.Goal.{Goal}
use Rattle.qf_goal.specs.Asked.{row_exists}
use Rattle.qf_goal.specs.Case.{Case, goal_at, mends}
use Rattle.qf_slice.specs.Marks.{mark_at}
use Rattle.qf_slice.specs.RootBox.{IsNeeded, IsRootBox}
use Rattle.qf_tree.specs.Certificates.{Instance}
use Rattle.qf_encode.specs.declared.coded.Coded.{Coded}
use Rattle.qf_encode.specs.Coding.{circuit_of}
use Rattle.qf_encode.specs.Systems.{system_of}

-- the circuit of a row, where the row exists
abbrev pub case_circuit : Case → RowName → Option Coded
case_circuit case row = circuit_of (length case.plan.columns) case.table.rows case.plan.statements row

-- no inequality over no variable
abbrev pub no_system : System
no_system = record { inequalities = []; vars = 0; selectors = [] }

abbrev pub system_or : Bounds → Goal → Option Coded → System
system_or root goal None = no_system
system_or root goal (Some coded) = system_of coded root goal

abbrev pub hull_or : Bounds → Option Coded → Bounds
hull_or region None = []
hull_or region (Some coded) = hull_of region coded.circuit

-- a row's system is that of its circuit and its goal over the root box; its hull is that of its circuit
abbrev pub instance_of : Case → Bounds → (ℕ → Bool) → Instance
instance_of case root is_needed = record {
  olds = case.plan.olds;
  domains = case.domains.region;
  root = root;
  is_needed = is_needed;
  has_row = λ row. row_exists case.plan row;
  repairs = λ point. mends case point;
  system = λ row. system_or root (goal_at case row) (case_circuit case row);
  hull = λ row region. hull_or region (case_circuit case row);
}

-- the parameter has a mark; that of parameter k, from 1, stands at place k - 1
abbrev pub is_marked : List Bool → ℕ → Bool
is_marked marks k = nat_le 1 k && mark_at marks (k - 1)

-- the problem's instance: its box is the root box, and its test says which parameters are needed
pub record IsInstance (case : Case) (inst : Instance) : Type 0 where
  pub root : IsRootBox case inst.root
  pub needed : (k : ℕ) → Decides (inst.is_needed k) (IsNeeded case k)
  pub is : inst ≡ instance_of case inst.root inst.is_needed
