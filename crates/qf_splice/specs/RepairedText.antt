-- The repaired text of a log: its bytes, with the literal of each changed parameter replaced by the numeral of the new
-- value.
use Rattle.std.specs.Prelude.{ℕ, ◌-◌, ◌==◌, ◌&&◌, ◌||◌, ℤ, Bool, List, ◌∷◌, ◌++◌, take, drop, slice_get, Option, Some, None, if◌then◌else◌}
use Rattle.std.specs.Ordering.{int_eq}
use Rattle.std.specs.Char.{is_ascii_alphabetic, is_ascii_digit}
use Rattle.std.specs.Fmt.{signed_decimal}
use Rattle.qf_log.specs.declared.places.ParamPlace.{ParamPlace}

-- a `-` behind a `-` would begin a comment, and a digit behind a word or a number would go on with it
abbrev pub joins : ℕ → ℕ → Bool
joins before first = ((first == 45) && (before == 45)) || (is_ascii_digit first && (is_ascii_alphabetic before || is_ascii_digit before || (before == 95)))

-- the byte before an offset
abbrev pub byte_before : List ℕ → ℕ → Option ℕ
byte_before bytes start = if start == 0 then None else slice_get bytes (start - 1)

-- the numeral, with a space before it where it would join the byte before
abbrev pub parted : Option ℕ → List ℕ → List ℕ
parted (Some before) (first ∷ numeral) = if joins before first then 32 ∷ first ∷ numeral else first ∷ numeral
parted _ numeral = numeral

-- the new literal: the old one stays where the value is the old one
abbrev pub literal : List ℕ → ParamPlace → ℤ → List ℕ
literal bytes place value =
    if int_eq value place.old then take (place.end - place.start) (drop place.start bytes)
    else parted (byte_before bytes place.start) (signed_decimal value)

-- what stands from an offset on: unchanged pieces with literals between them
abbrev pub repaired_from : ℕ → List ℕ → List ParamPlace → List ℤ → List ℕ
repaired_from at bytes (place ∷ places) (value ∷ values) = take (place.start - at) (drop at bytes) ++ (literal bytes place value ++ repaired_from place.end bytes places values)
repaired_from at bytes _ _ = drop at bytes

abbrev pub repaired_text : List ℕ → List ParamPlace → List ℤ → List ℕ
repaired_text bytes places values = repaired_from 0 bytes places values
