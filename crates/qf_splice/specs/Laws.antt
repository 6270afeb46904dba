-- What a repaired log says.
use Rattle.std.specs.Prelude.{◌≡◌, ℕ, ℤ, List, map, length}
use Rattle.std.specs.List.{AllByRecursion}
use Rattle.qf_ir.specs.Fits.{Small}
use Rattle.qf_log.specs.declared.places.ParamPlace.{ParamPlace}
use Rattle.qf_log.specs.Reading.{Reading, olds_of, IsLogOf}
use Rattle.qf_splice.specs.RepairedText.{repaired_text}

-- one value within 2^50 for each parameter
pub record IsPointOf (log : Reading) (point : List ℤ) : Type 0 where
  pub values : length point ≡ length log.parameters
  pub within : AllByRecursion Small point

-- the numbers of the statements in which the parameters stand
abbrev pub homes_of : Reading → List ℕ
homes_of log = map (λ (p : ParamPlace). p.statement) log.parameters

-- the bytes say the same statements over the same names and texts as the log, with the point as their constants
pub record SaysWith (log : Reading) (point : List ℤ) (bytes : List ℕ) : Type 0 where
  pub again : Reading
  pub read : IsLogOf bytes again
  pub names : again.names ≡ log.names
  pub texts : again.texts ≡ log.texts
  pub statements : again.statements ≡ log.statements
  pub constants : olds_of again ≡ point
  pub homes : homes_of again ≡ homes_of log

abbrev pub RepairedLogsSayTheSame : Type 0
RepairedLogsSayTheSame = (bytes : List ℕ) (log : Reading) (point : List ℤ) → IsLogOf bytes log → IsPointOf log point → SaysWith log point (repaired_text bytes log.parameters point)

-- at its own constants a log stays as it is
abbrev pub UnchangedLogsStay : Type 0
UnchangedLogsStay = (bytes : List ℕ) (log : Reading) → IsLogOf bytes log → repaired_text bytes log.parameters (olds_of log) ≡ bytes
