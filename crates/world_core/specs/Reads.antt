-- The keys of entries in nested lists, as a look-up by name.
use Rattle.node_words.specs.declared.shapes.names.Name.{Name}
use Rattle.node_words.specs.declared.keys.Key.{Key}
use Rattle.world_core.specs.Slots.{BucketRow, entry_at, key_or_none}
use Rattle.std.specs.Prelude.{List}

-- the key of each name; that of a leaf with no set cell where there is no entry
abbrev pub keys_in : List BucketRow → Name → Key
keys_in all n = key_or_none (entry_at all n)
