use Rattle.std.proofs.Common.{◌≡◌, [], ◌∷◌, drop}
use Rattle.qf_tree.specs.Refutations.{first_wrong_step}
use Rattle.qf_check.specs.Undoing.{IsTracked, pending}
use Rattle.qf_check.proofs.StepsTaken.{later_by}
use Rattle.qf_check.proofs.refuting.first_wrong_step.Given as goal

abbrev pub invariant-loop-i : goal.invariant-loop-i
invariant-loop-i l = record {
  tracked : IsTracked l.system l.refuting;
  so_far : later_by l.i (first_wrong_step l.system (pending l.refuting) (drop l.i l.steps)) ≡ first_wrong_step l.system ((l.fn.bounds, 0) ∷ []) l.steps;
}
