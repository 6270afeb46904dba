-- The parameters of a log as CSV.
use Rattle.std.specs.Prelude.{ℕ, ◌+◌, List, [], ◌∷◌, ◌++◌}
use Rattle.std.specs.Fmt.{decimal, signed_decimal}
use lib.Chars.{codes}
use Rattle.qf_csv.specs.Records.{Record, record_text}
use Rattle.qf_log.specs.declared.places.ParamPlace.{ParamPlace}

abbrev pub parameters_header : Record
parameters_header = codes "param" ∷ codes "old" ∷ codes "statement" ∷ codes "offset" ∷ []

-- `p` and the number of the parameter, its old constant, the number of its statement, and the offset of its literal
abbrev pub parameter_record : ℕ → ParamPlace → Record
parameter_record number place =
    (112 ∷ decimal number) ∷ signed_decimal place.old ∷ decimal place.statement ∷ decimal place.start ∷ []

-- the parameters from this number on
abbrev pub parameters_from : ℕ → List ParamPlace → List ℕ
parameters_from number [] = []
parameters_from number (place ∷ places) = record_text (parameter_record number place) ++ parameters_from (number + 1) places

-- the header and the parameters in the order of the log, each ended by a line feed
abbrev pub parameters_text : List ParamPlace → List ℕ
parameters_text places = record_text parameters_header ++ parameters_from 1 places
