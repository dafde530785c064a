-- What may happen to a slot of nested lists.
use Rattle.std.specs.Prelude.{◌≡◌, ◌<◌, ℕ, Option, List, [], length, slice_index_or, slice_set}
use Rattle.node_words.specs.declared.shapes.names.Name.{Name}
use Rattle.node_words.specs.declared.keys.Key.{Key}
use Rattle.bucket_core.specs.declared.counted.Entry.{Entry}
use Rattle.bucket_core.specs.declared.counted.Lowered.{Lowered}
use Rattle.bucket_core.specs.Buckets.{book_of_slot, entry_in, LowersBook}
use Rattle.world_core.specs.Slots.{BucketRow, bucket_at, entry_at, put_at}

-- one reference less to the entry of a slot of a level's bucket
pub record LowersSlot (old : BucketRow) (bucket slot : ℕ) (result : Lowered Key)
    (new : BucketRow) : Type 0 where
  pub after : Option (Entry Key)
  pub entry : LowersBook (entry_in (slice_index_or old bucket []) slot) result after
  pub others : new ≡ slice_set old bucket (slice_set (slice_index_or old bucket []) slot after)

-- one reference less to the entry of a name
pub record LowersEntryAt (old : List BucketRow) (n : Name) (result : Lowered Key)
    (new : List BucketRow) : Type 0 where
  pub after : Option (Entry Key)
  pub entry : LowersBook (entry_at old n) result after
  pub others : new ≡ put_at old n after

-- each slot below this one has an entry with references
pub record AreLive (slots : List (Option (Entry Key))) (below : ℕ) : Type 0 where
  pub each : (slot : ℕ) → slot < below → 0 < book_of_slot (entry_in slots slot)

-- the lists have a slot for the name
pub record HasSlot (all : List BucketRow) (n : Name) : Type 0 where
  pub level : n.level < length all
  pub bucket : n.bucket < length (slice_index_or all n.level [])
  pub slot : n.slot < length (bucket_at all n.level n.bucket)
