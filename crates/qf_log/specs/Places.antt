-- What stands in a log at the places of its parameters.
use Rattle.std.specs.Prelude.{ℕ, List}
use Rattle.std.specs.List.{AllByRecursion}
use Rattle.qf_lex.specs.declared.token.TokenKind.TheVariants as kind
use Rattle.qf_lex.specs.Tokens.{StandsIn}
use Rattle.qf_log.specs.declared.places.ParamPlace.{ParamPlace}
use Rattle.qf_log.specs.Reading.{Reading, IsLogOf}

-- the bytes from the start to the end are a numeral, which reads as the old constant
abbrev pub SpellsConstant : List ℕ → ParamPlace → Type 0
SpellsConstant bytes p = StandsIn bytes (record { start = p.start; end = p.end; kind = kind.Number p.old })

-- the slice of a log at each parameter's place spells its old constant
abbrev pub PlacesSpellTheirConstants : Type 0
PlacesSpellTheirConstants = (bytes : List ℕ) (log : Reading) → IsLogOf bytes log → AllByRecursion (SpellsConstant bytes) log.parameters
