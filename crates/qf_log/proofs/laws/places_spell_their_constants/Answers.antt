use Rattle.qf_log.proofs.PlaceLaws.{places_spell_their_constants}
use Rattle.qf_log.proofs.laws.places_spell_their_constants.Goals as goal

pub returns : goal.returns
returns c = places_spell_their_constants
