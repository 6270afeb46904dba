use Rattle.std.proofs.Common.{◌≡◌, ℕ, ◌+◌, ◌<◌, length, drop}
use Rattle.std.specs.List.{AllByRecursion}
use Rattle.qf_impact.specs.Sets.{set_at, IsWithin}
use Rattle.qf_impact.proofs.Chains.{SoFar}
use Rattle.qf_impact.proofs.walk.follow.Given as goal

abbrev pub invariant-loop-statement : goal.invariant-loop-statement
invariant-loop-statement l = record {
  len : length l.sets ≡ length l.fn.sets;
  room : length l.room ≡ length l.sets;
  within : AllByRecursion IsWithin (drop l.statement-index l.statements);
  so_far : (i : ℕ) → i < length l.sets → SoFar (l.first + i) l.statements (drop l.statement-index l.statements) (set_at l.sets i);
}
