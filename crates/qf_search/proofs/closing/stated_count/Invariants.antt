use Rattle.std.proofs.Common.{◌≡◌, ◌≤◌, take, is_some}
use Rattle.std.specs.List.{count_by}
use Rattle.qf_search.proofs.closing.stated_count.Given as goal

abbrev pub invariant-loop-cell : goal.invariant-loop-cell
invariant-loop-cell l = record {
  few : l.count ≤ l.cell-index;
  so_far : l.count ≡ count_by is_some (take l.cell-index l.wanted);
}
