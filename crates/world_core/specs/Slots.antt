-- The core's state as nested lists show it: for each level its buckets, for each bucket its slots.
use Rattle.std.specs.Prelude.{◌≡◌, ℕ, ◌<◌, Option, Some, None, List, [], length, slice_index_or, slice_set}
use Rattle.node_words.specs.declared.shapes.names.Name.{Name}
use Rattle.core_laws.specs.Key.{Key}
use Rattle.core_laws.specs.TheVariants.{Leaf}
use Rattle.core_laws.specs.Plans.{Layout}
use Rattle.core_laws.specs.places.WordIds.{levels, buckets_at}
use Rattle.bucket_core.specs.declared.counted.Entry.{Entry}
use Rattle.bucket_core.specs.Buckets.{book_of_slot}
use Rattle.core_laws.specs.Logs.{Log}
use Rattle.core_laws.specs.States.{State}

abbrev pub SlotRow : Type 0
SlotRow = List (Option (Entry Key))

abbrev pub BucketRow : Type 0
BucketRow = List SlotRow

-- the bucket of a level
abbrev pub bucket_at : List BucketRow → ℕ → ℕ → SlotRow
bucket_at all level bucket = slice_index_or (slice_index_or all level []) bucket []

-- what stands in the slot of a name
abbrev pub entry_at : List BucketRow → Name → Option (Entry Key)
entry_at all n = slice_index_or (bucket_at all n.level n.bucket) n.slot None

-- a bucket has other slots
abbrev pub put_bucket : List BucketRow → ℕ → ℕ → SlotRow → List BucketRow
put_bucket all level bucket slots =
    slice_set all level (slice_set (slice_index_or all level []) bucket slots)

-- the slot of a name has another content
abbrev pub put_at : List BucketRow → Name → Option (Entry Key) → List BucketRow
put_at all n e =
    put_bucket all n.level n.bucket (slice_set (bucket_at all n.level n.bucket) n.slot e)

-- there are as many levels, buckets and slots as the plan says
pub record IsLaidOut (p : Layout) (all : List BucketRow) : Type 0 where
  pub heights : length all ≡ levels p
  pub buckets : (level : ℕ) → level < levels p
      → length (slice_index_or all level []) ≡ buckets_at p level
  pub slots : (level bucket : ℕ) → level < levels p → bucket < buckets_at p level
      → length (bucket_at all level bucket) ≡ p.cap

-- the key of an entry; any one where there is none
abbrev pub key_or_none : Option (Entry Key) → Key
key_or_none None = Leaf 0
key_or_none (Some e) = e.key

-- the state of nested lists, the roots by version or place, the log, and what each holder holds
abbrev pub read_lists : List BucketRow → (ℕ → Option Name) → Log → List (List Name)
    → State
read_lists all root log held = record {
  book = λ n. book_of_slot (entry_at all n);
  key = λ n. key_or_none (entry_at all n);
  root = root;
  log = log;
  held = held;
}
