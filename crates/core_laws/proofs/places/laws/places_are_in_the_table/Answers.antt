use Rattle.core_laws.proofs.OfPlaces.Apart.{place_low}
use Rattle.core_laws.proofs.places.laws.places_are_in_the_table.Goals as goal

pub returns : goal.returns
returns c = place_low
