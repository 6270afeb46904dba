use Rattle.std.proofs.Common.{◌≡◌, ◌<◌, length}
use Rattle.std.specs.List.{find, AllByRecursion}
use Rattle.qf_board.specs.declared.keys.Key.{Key}
use Rattle.qf_board.specs.Kept.{is_open_at}
use Rattle.qf_board.proofs.keys.first_open.Given as goal

-- what is left has the first open one
abbrev pub invariant-loop-key : goal.invariant-loop-key
invariant-loop-key l = record {
  can_next : (goal.iterator-loop-key).can_next l.key-iterator;
  is_finite : (goal.iterator-loop-key).is_finite l.key-iterator;
  first : find (λ (key : Key). is_open_at l.links key.leaf) l.key-iterator ≡ find (λ (key : Key). is_open_at l.links key.leaf) l.keys.keys;
  real : AllByRecursion (λ (key : Key). key.leaf < length l.links) l.key-iterator;
}
