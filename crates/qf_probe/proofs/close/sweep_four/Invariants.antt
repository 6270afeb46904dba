use Rattle.std.proofs.Common.{◌≡◌, ◌-◌, ◌<◌, false}
use Rattle.qf_lin.specs.Inequalities.{is_empty}
use Rattle.qf_lin.specs.Steps.{ends_empty}
use Rattle.qf_tree.specs.Lines.{StepsFit}
use Rattle.qf_prop.specs.Sweeps.{Leads}
use Rattle.qf_probe.proofs.FourSweeps.{swept_times}
use Rattle.qf_probe.proofs.close.sweep_four.Given as goal

abbrev pub invariant-loop-turn : goal.invariant-loop-turn
invariant-loop-turn l = record {
  leads : Leads l.system l.initial.trail l.initial.steps l.trail l.steps;
  to_come : ends_empty l.system.inequalities l.initial.trail.bounds ≡ is_empty (swept_times (4 - l._turn) l.system.inequalities l.trail.bounds);
  nonempty : 0 < l._turn → is_empty l.trail.bounds ≡ false;
  spelled : StepsFit l.initial.steps → StepsFit l.steps;
}
