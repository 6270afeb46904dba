-- The places of the parameters' records.
use Rattle.std.specs.Prelude.{ℕ, zero, suc, ◌+◌, List, [], ◌∷◌, nat_eq, slice_get}
use Rattle.std.specs.declared.option.Option.{Option}
use Rattle.std.specs.declared.option.Option.TheVariants.{Some, None}
use Rattle.std.specs.List.{position}
use Rattle.qf_point.specs.declared.domains.DomainRow.{DomainRow}

abbrev pub place_of : List DomainRow → ℕ → Option ℕ
place_of rows param = position (λ row. nat_eq row.param param) rows

-- the places of so many parameters' records, from a number on
abbrev pub places_from : ℕ → ℕ → List DomainRow → List (Option ℕ)
places_from param zero rows = []
places_from param (suc more) rows = place_of rows param ∷ places_from (param + 1) more rows

abbrev pub row_at : List DomainRow → Option ℕ → Option DomainRow
row_at rows None = None
row_at rows (Some place) = slice_get rows place

abbrev pub put_first : Option ℕ → ℕ → Option ℕ
put_first (Some found) at = Some found
put_first None at = Some at

-- the list with this in a place where nothing stands
abbrev pub noted_at : List (Option ℕ) → ℕ → ℕ → List (Option ℕ)
noted_at [] place at = []
noted_at (found ∷ rest) zero at = put_first found at ∷ rest
noted_at (found ∷ rest) (suc place) at = found ∷ noted_at rest place at

-- the list with the place of a parameter's record
abbrev pub noted : List (Option ℕ) → ℕ → ℕ → List (Option ℕ)
noted found zero at = found
noted found (suc place) at = noted_at found place at
