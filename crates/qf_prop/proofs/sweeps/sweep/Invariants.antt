use Rattle.std.proofs.Common.{◌≡◌, ◌++◌, take, false, fold, reverse}
use Rattle.qf_lin.specs.Inequalities.{is_empty, row_swept}
use Rattle.qf_tree.specs.Lines.{StepsFit}
use Rattle.qf_prop.specs.Sweeps.{Leads}
use Rattle.qf_prop.proofs.sweeps.sweep.Given as goal

abbrev pub invariant-loop-turn : goal.invariant-loop-turn
invariant-loop-turn l = record {
  leads : Leads l.system l.initial.trail l.initial.steps l.trail l.steps;
  so_far : l.trail.bounds ≡ fold row_swept l.initial.trail.bounds (take l.turn (l.system.inequalities ++ reverse l.system.inequalities));
  spelled : StepsFit l.initial.steps → StepsFit l.steps;
  nonempty : is_empty l.trail.bounds ≡ false;
}
