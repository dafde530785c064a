use Rattle.core_laws.proofs.OfPlaces.KeyLaws.{key_back, words_key}
use Rattle.core_laws.proofs.places.laws.keys_and_words_tell_each_other.Goals as goal

pub returns-clause-words : goal.returns-clause-words
returns-clause-words c = key_back

pub returns-clause-key : goal.returns-clause-key
returns-clause-key c = words_key
