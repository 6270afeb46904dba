-- Steps one after another.
use Rattle.std.proofs.Common.{◌≡◌, ap, refl, ℕ, ◌+◌, Option, Some, None, arith}

-- so many later
abbrev pub later_by : ℕ → Option ℕ → Option ℕ
later_by n None = None
later_by n (Some m) = Some (n + m)

pub later-none : (o : Option ℕ) → later_by 0 o ≡ o
later-none None = refl
later-none (Some m) = ap Some (omega arith)
