-- What a log that was read gives a program and a repaired text.
use Rattle.std.specs.Prelude.{ℕ, ◌<◌, ◌≤◌, ◌^◌, List, [], ◌∷◌, length}
use Rattle.std.specs.List.{AllByRecursion}
use Rattle.qf_ir.specs.Fits.{Small}
use Rattle.qf_ir.specs.Made.{AreMade, AreCoded, AreInOrder}
use Rattle.qf_log.specs.declared.places.ParamPlace.{ParamPlace}
use Rattle.qf_log.specs.Reading.{Reading, olds_of, IsLogOf}

-- the literals stand one behind the other, from an offset on and up to another
abbrev pub AreApart : ℕ → List ParamPlace → ℕ → Type 0
AreApart at [] end = at ≤ end
AreApart at (p ∷ ps) end = (at ≤ p.start) × (p.start < p.end) × AreApart p.end ps end

-- names, texts, statements and old constants as a program asks for them
pub record IsReady (log : Reading) : Type 0 where
  pub few_names : length log.names < 2 ^ 30
  pub few_texts : length log.texts < 2 ^ 30
  pub coded : AreCoded log.statements (length log.texts)
  pub in_order : AreInOrder log.statements (length (olds_of log))
  pub made : AreMade log.statements
  pub small_olds : AllByRecursion Small (olds_of log)

abbrev pub LogsAreReady : Type 0
LogsAreReady = (bytes : List ℕ) (log : Reading) → length bytes < 2 ^ 30 → IsLogOf bytes log → IsReady log × AreApart 0 log.parameters (length bytes)
