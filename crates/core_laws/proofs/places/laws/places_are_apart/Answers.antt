use Rattle.core_laws.proofs.OfPlaces.Apart.{place_one}
use Rattle.core_laws.proofs.places.laws.places_are_apart.Goals as goal

pub returns : goal.returns
returns c = place_one
