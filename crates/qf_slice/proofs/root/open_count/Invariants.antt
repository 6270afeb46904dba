use Rattle.std.proofs.Common.{◌≡◌, ◌≤◌, take}
use Rattle.std.specs.List.{count_by}
use Rattle.qf_slice.specs.RootBox.{is_open}
use Rattle.qf_slice.proofs.root.open_count.Given as goal

abbrev pub invariant-loop-i : goal.invariant-loop-i
invariant-loop-i l = record {
  few : l.count ≤ l.i;
  so_far : l.count ≡ count_by is_open (take l.i l.region);
}
