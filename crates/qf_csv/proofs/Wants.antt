-- What an error of reading records of any length, as bytes, is of.
use Rattle.std.proofs.Common.{◌≡◌, ℕ, List, true, false, IsTrue, Option, sym, ◌∙◌, refl}
use Rattle.std.proofs.lemmas.Bool.{false≢true}
use Rattle.csv.specs.Reading.{ExplainsRead, stops_reader}
use Rattle.csv.specs.declared.reader.Reader.{Reader}
use Rattle.csv.specs.declared.error.ErrorKind.{ErrorKind}
use Rattle.csv.specs.declared.error.ErrorKind.TheVariants as kind

pub wants : {R : Type 0} (remaining : R → Option (List ℕ)) (old new : Reader R) (k : ErrorKind) → old.flexible ≡ true → ExplainsRead remaining old new false k
    → IsTrue (stops_reader k)
wants remaining old new (kind.Io e) flexible why = refl
wants remaining old new kind.OutOfMemory flexible why = refl
wants remaining old new (kind.UnequalLengths pos expected len) flexible why = absurd (false≢true (sym why.0 ∙ flexible))
wants remaining old new (kind.Utf8 pos err) flexible why = absurd (false≢true why.0)
wants remaining old new (kind.Serialize text) flexible why = absurd why
wants remaining old new (kind.Deserialize pos err) flexible why = absurd why
