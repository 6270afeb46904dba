use Rattle.std.proofs.Common.{◌≡◌, take, false, fold}
use Rattle.qf_lin.specs.Inequalities.{is_empty, tightened}
use Rattle.qf_tree.specs.Lines.{StepsFit}
use Rattle.qf_prop.specs.Sweeps.{Leads, row_at}
use Rattle.qf_prop.proofs.row.sweep_row.Given as goal

abbrev pub invariant-loop-term : goal.invariant-loop-term
invariant-loop-term l = record {
  leads : Leads l.system l.initial.trail l.initial.steps l.trail l.steps;
  so_far : l.trail.bounds ≡ fold (tightened (row_at l.system.inequalities l.number)) l.initial.trail.bounds (take l.term-index l.terms);
  spelled : StepsFit l.initial.steps → StepsFit l.steps;
  nonempty : is_empty l.trail.bounds ≡ false;
}
