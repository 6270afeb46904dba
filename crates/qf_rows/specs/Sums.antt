-- The terms of a sum in a map from variables to factors, in the order in which the variables are first seen.
use Rattle.std.specs.Prelude.{ℕ, ◌≤◌, ◌^◌, Bool, not, List, map, ℤ, pos, unwrap_or, nat_eq, unsigned_abs, All}
use Rattle.std.specs.Map.{lookup}
use Rattle.std.specs.Ordering.{int_eq}
use Rattle.qf_base.specs.Values.{Term}
use Rattle.qf_rows.specs.Encoding.{merged}

abbrev pub Entry : Type 0
Entry = ℕ × ℤ

abbrev pub term_of : Entry → Term
term_of entry = (entry.1, entry.0)

abbrev pub terms_of : List Entry → List Term
terms_of entries = map term_of entries

-- the factor of a variable, 0 where it has none yet
abbrev pub factor_at : List Entry → ℕ → ℤ
factor_at entries var = unwrap_or (lookup (nat_eq var) entries) (pos 0)

abbrev pub has_factor : Term → Bool
has_factor t = not (int_eq t.0 (pos 0))

-- the factors are small, also after those of equal variables are added up
pub record TermsFit (terms : List Term) : Type 0 where
  pub each : All (λ t. unsigned_abs t.0 ≤ 2 ^ 60) terms
  pub added_up : All (λ t. unsigned_abs t.0 ≤ 2 ^ 60) (merged terms)
