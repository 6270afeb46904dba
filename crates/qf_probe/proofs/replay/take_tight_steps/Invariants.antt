use Rattle.std.proofs.Common.{◌≡◌, drop, false}
use Rattle.qf_lin.specs.Inequalities.{is_empty}
use Rattle.qf_probe.specs.Probes.{TakesTo}
use Rattle.qf_probe.proofs.replay.take_tight_steps.Given as goal

abbrev pub invariant-loop-at : goal.invariant-loop-at
invariant-loop-at l = record {
  taken : TakesTo l.system l.initial.bounds (drop l.fn.from l.steps) (drop l.at l.steps) l.bounds;
  nonempty : is_empty l.bounds ≡ false;
}
