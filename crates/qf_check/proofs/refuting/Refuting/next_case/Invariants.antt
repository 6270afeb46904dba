use Rattle.std.proofs.Common.{◌≡◌, false, length}
use Rattle.qf_lin.specs.declared.inequality.System.{System}
use Rattle.qf_check.specs.Undoing.{IsTracked, cases_to_come}
use Rattle.qf_check.proofs.refuting.Refuting.next_case.Given as goal

abbrev pub invariant-loop-change : goal.invariant-loop-change
invariant-loop-change l = record {
  there : l.self.is_done ≡ false;
  tracked : (system : System) → IsTracked system l.initial.self → IsTracked system l.self;
  left : cases_to_come l.self.bounds l.self.changes ≡ cases_to_come l.initial.self.bounds l.initial.self.changes;
}

abbrev pub decreases-loop-change : goal.decreases-loop-change
decreases-loop-change l = length l.self.changes
