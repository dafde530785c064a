-- How the words of a slot say a key: a leaf's by its bits, and a node's by four words of two
-- children each.
use Rattle.std.specs.Prelude.{ℕ}
use Rattle.std.proofs.Common.{zero, suc}
use Rattle.node_words.specs.declared.keys.Key.{Key}
use Rattle.node_words.specs.declared.keys.Key.TheVariants.{Leaf}
use Rattle.core_laws.specs.places.KeyWords.{key_of_words}
use Rattle.one_store.specs.declared.entries.key_words.Pairs.{Pairs}
use Rattle.one_store.specs.declared.entries.key_words.KeyWords.{KeyWords}

-- a word of two children by its number, from 0 to 3
abbrev pub pair_number : Pairs → ℕ → ℕ
pair_number pairs zero = pairs.first
pair_number pairs (suc zero) = pairs.second
pair_number pairs (suc (suc zero)) = pairs.third
pair_number pairs _ = pairs.fourth

-- the key that these words say, of a leaf or of a node of this level
abbrev pub key_from : ℕ → ℕ → Pairs → Key
key_from zero bits pairs = Leaf bits
key_from (suc level) bits pairs = key_of_words (suc level) (pair_number pairs)

abbrev pub key_of : ℕ → KeyWords → Key
key_of level words = key_from level words.bits words.pairs
