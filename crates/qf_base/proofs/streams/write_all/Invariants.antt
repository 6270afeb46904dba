use Rattle.std.proofs.Common.{ℕ, length, ◌≡◌, ◌≤◌, take, drop}
use Rattle.std.specs.Io.KnownBytes.{Appends}
use Rattle.qf_base.proofs.streams.write_all.Given as goal

-- so many bytes of the piece are written, and the rest is left
abbrev pub invariant-loop-rest : goal.invariant-loop-rest
invariant-loop-rest g l =
    (l.faults ≡ l.initial.faults)
    × ((k : ℕ) × (k ≤ length l.piece) × (l.rest ≡ drop k l.piece)
    × Appends (g.W.Write.contents l.fn.writer) (g.W.Write.contents l.writer) (take k l.piece))

abbrev pub decreases-loop-rest : goal.decreases-loop-rest
decreases-loop-rest g l = length l.rest
