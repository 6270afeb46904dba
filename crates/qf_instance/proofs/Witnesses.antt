-- A point at which a row meets its goal keeps the row from closing the boxes that it lies in.
use Rattle.std.proofs.Common.{◌≡◌, sym, subst, refl, ℕ, ◌<◌, ◌≤◌, Bool, true, false, not, arith}
use Rattle.std.specs.declared.option.Option.{Option}
use Rattle.std.specs.declared.option.Option.TheVariants.{Some, None}
use Rattle.std.proofs.lemmas.List.Elements.{All-nil}
use Rattle.std.proofs.lemmas.Bool.{false≢true}
use Rattle.qf_base.specs.declared.names.RowName.{RowName}
use Rattle.qf_base.specs.Values.{Bounds}
use Rattle.qf_lin.specs.declared.inequality.Inequality.{Inequality}
use Rattle.qf_lin.specs.Inequalities.{NamesVars, IsProper, IsWellFormed}
use Rattle.qf_lin.specs.Steps.{is_closable}
use Rattle.qf_lin.proofs.Solutions.{solutions_keep_open}
use Rattle.qf_ir.specs.Repairs.{meets}
use Rattle.qf_goal.specs.Case.{Case, outcome_at, goal_at}
use Rattle.qf_goal.specs.SoundCase.{IsSoundCase}
use Rattle.qf_encode.specs.declared.coded.Coded.{Coded}
use Rattle.qf_instance.specs.Instances.{case_circuit, system_or, hull_or}
use Rattle.qf_instance.specs.Laws.{WitnessesLeaveOpen}
use Rattle.qf_instance.proofs.Systems.{row_formed}
use Rattle.qf_instance.proofs.Encoded.{met_satisfies}

met_by : (b : Bool) → not b ≡ false → b ≡ true
met_by true e = refl
met_by false e = absurd (false≢true (sym e))

formed_or : (case : Case) (root : Bounds) (row : RowName) → IsSoundCase case → (o : Option Coded) → case_circuit case row ≡ o → IsWellFormed (system_or root (goal_at case row) o)
formed_or case root row sound None e = record {
  few = omega arith;
  named = All-nil (λ (i : Inequality). NamesVars i.terms 0);
  proper = All-nil (λ (i : Inequality). IsProper i.terms);
  selectors = All-nil (λ (var : ℕ). (0 < var) × (var ≤ 0));
}
formed_or case root row sound (Some c) e = row_formed case root row sound c e

pub witnesses_leave_open : WitnessesLeaveOpen
witnesses_leave_open case inst row region point sound x exists met in_root in_region =
    let o = case_circuit case row in
    let goal_met = met_by (meets (outcome_at case point row) (goal_at case row)) met in
    let own = met_satisfies case inst.root region row point sound exists in_root in_region goal_met in
    let left = solutions_keep_open (system_or inst.root (goal_at case row) o) (hull_or region o) own.0 (formed_or case inst.root row sound o refl) own.1 own.2 in
    subst (λ i. is_closable (i.system row) (i.hull row region) ≡ false) (sym x.is) left
