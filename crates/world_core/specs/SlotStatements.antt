-- What the laws say of slots whose contents change.
use Rattle.std.specs.Prelude.{◌≡◌, ◌≢◌, ℕ, ◌+◌, ◌<◌, Option, Some, None, List}
use Rattle.node_words.specs.declared.shapes.names.Name.{Name}
use Rattle.core_laws.specs.Key.{Key}
use Rattle.core_laws.specs.Keys.{bucket_of_key}
use Rattle.core_laws.specs.Plans.{Layout}
use Rattle.core_laws.specs.places.Names.{IsName}
use Rattle.core_laws.specs.places.WordIds.{buckets_at}
use Rattle.bucket_core.specs.declared.counted.Entry.{Entry}
use Rattle.core_laws.specs.Logs.{Log}
use Rattle.core_laws.specs.Soundness.{FitsLevel}
use Rattle.core_laws.specs.Events.{Trades, IsMissing, Raises, Adds, Lowers, Frees, no_weight, one_name, children_named}
use Rattle.world_core.specs.Slots.{BucketRow, entry_at, put_at, IsLaidOut, read_lists}

-- a name's slot has what was put there
abbrev pub SlotsHold : Type 0
SlotsHold = (p : Layout) (all : List BucketRow) (n : Name) (e : Option (Entry Key))
    → IsLaidOut p all → IsName p n → entry_at (put_at all n e) n ≡ e

-- and every other slot what it had
abbrev pub OtherSlotsStay : Type 0
OtherSlotsStay = (p : Layout) (all : List BucketRow) (n m : Name) (e : Option (Entry Key))
    → IsLaidOut p all → IsName p n → m ≢ n → entry_at (put_at all n e) m ≡ entry_at all m

-- lists stay laid out
abbrev pub ListsStayLaidOut : Type 0
ListsStayLaidOut = (p : Layout) (all : List BucketRow) (n : Name) (e : Option (Entry Key))
    → IsLaidOut p all → IsName p n → IsLaidOut p (put_at all n e)

-- an entry with one reference more is a raise
abbrev pub SlotsRaise : Type 0
SlotsRaise =
    (p : Layout) (all : List BucketRow) (n : Name) (key : Key) (book holder : ℕ)
    (root : ℕ → Option Name) (log : Log) (held new : List (List Name)) → IsLaidOut p all
    → IsName p n
    → entry_at all n ≡ Some (record { key = key; book = book }) → 0 < book
    → Trades held holder no_weight (one_name n) new
    → Raises p holder n (read_lists all root log held)
    (read_lists (put_at all n (Some (record { key = key; book = book + 1 }))) root log new)

-- an entry in an empty slot is an addition
abbrev pub SlotsAdd : Type 0
SlotsAdd =
    (p : Layout) (all : List BucketRow) (n : Name) (key : Key) (holder : ℕ)
    (root : ℕ → Option Name) (log : Log) (held new : List (List Name))
    → IsLaidOut p all → IsName p n
    → entry_at all n ≡ None → FitsLevel n.level key
    → n.bucket ≡ bucket_of_key key (buckets_at p n.level)
    → IsMissing p (read_lists all root log held) n.level key
    → Trades held holder (children_named key) (one_name n) new
    → Adds p holder n key (read_lists all root log held)
    (read_lists (put_at all n (Some (record { key = key; book = 1 }))) root log new)

-- an entry with one reference less, and one or more left, is a lower
abbrev pub SlotsLower : Type 0
SlotsLower =
    (p : Layout) (all : List BucketRow) (n : Name) (key : Key) (left holder : ℕ)
    (root : ℕ → Option Name) (log : Log) (held new : List (List Name)) → IsLaidOut p all
    → IsName p n
    → entry_at all n ≡ Some (record { key = key; book = left + 1 }) → 0 < left
    → Trades held holder (one_name n) no_weight new
    → Lowers p holder n (read_lists all root log held)
    (read_lists (put_at all n (Some (record { key = key; book = left }))) root log new)

-- an entry that leaves its slot is freed
abbrev pub SlotsFree : Type 0
SlotsFree =
    (p : Layout) (all : List BucketRow) (n : Name) (key : Key) (holder : ℕ)
    (root : ℕ → Option Name) (log : Log) (held new : List (List Name))
    → IsLaidOut p all → IsName p n
    → entry_at all n ≡ Some (record { key = key; book = 1 })
    → Trades held holder (one_name n) (children_named key) new
    → Frees p holder n (read_lists all root log held) (read_lists (put_at all n None) root log new)
