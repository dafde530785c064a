use Rattle.core_laws.proofs.OfPlaces.Children.{one_child}
use Rattle.core_laws.proofs.places.laws.child_words_tell_children.Goals as goal

pub returns : goal.returns
returns c = one_child
