use Rattle.std.proofs.Common.{◌≡◌, ◌≤◌, take}
use Rattle.std.specs.List.{count_by}
use Rattle.qf_check.specs.Undoing.{is_crossed}
use Rattle.qf_check.proofs.refuting.crossed_count.Given as goal

abbrev pub invariant-loop-i : goal.invariant-loop-i
invariant-loop-i l = record {
  few : l.count ≤ l.i;
  so_far : l.count ≡ count_by is_crossed (take l.i l.bounds);
}
