use Rattle.core_laws.proofs.OfPlaces.SpotTests.{word_id_dec}
use Rattle.core_laws.proofs.places.laws.words_can_be_told.Goals as goal

pub returns : goal.returns
returns c = word_id_dec
