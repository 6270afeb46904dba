use Rattle.std.proofs.Common.{◌≡◌, drop}
use Rattle.qf_check.specs.Walking.{told, IsSoundWalk}
use Rattle.qf_check.proofs.walk.Walk.run.Given as goal

abbrev pub invariant-loop-node : goal.invariant-loop-node
invariant-loop-node l = record {
  sound : IsSoundWalk l.grounds l.self;
  told : told l.grounds l.self (drop l.node-index l.nodes) ≡ told l.grounds l.initial.self l.nodes;
}
