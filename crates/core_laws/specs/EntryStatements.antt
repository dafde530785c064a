-- What the laws say of entries that are named, of keys and of books.
use Rattle.std.specs.Prelude.{◌≡◌, ◌≢◌, ℕ, ◌+◌, ◌*◌, ◌<◌, ◌≤◌, Some}
use Rattle.node_words.specs.declared.shapes.names.Name.{Name}
use Rattle.node_words.specs.declared.keys.Key.{Key}
use Rattle.node_words.specs.Keys.{bucket_of_key}
use Rattle.node_words.specs.Plans.{Layout}
use Rattle.core_laws.specs.places.Names.{named, key_child}
use Rattle.core_laws.specs.places.WordIds.{levels, buckets_at, versions}
use Rattle.core_laws.specs.States.{State, IsLive, IsUnder, Holds}
use Rattle.core_laws.specs.Counting.{holdings}
use Rattle.core_laws.specs.Soundness.{SoundEntries}
use Rattle.core_laws.specs.Events.{IsMissing}

-- the children of a live entry are live
abbrev pub ChildrenLive : Type 0
ChildrenLive = (p : Layout) (state : State) (m n : Name) (k : ℕ) → SoundEntries p state
    → IsLive p state m → k < 8
    → key_child (state.key m) k ≡ Some n → IsLive p state n

-- each of them is one level lower
abbrev pub ChildrenAreBelow : Type 0
ChildrenAreBelow = (p : Layout) (state : State) (m n : Name) (k : ℕ) → SoundEntries p state
    → IsLive p state m → k < 8
    → key_child (state.key m) k ≡ Some n → n.level + 1 ≡ m.level

-- a root that is kept is live
abbrev pub RootsLive : Type 0
RootsLive = (p : Layout) (state : State) (v : ℕ) (n : Name) → SoundEntries p state → v < versions
    → state.root v ≡ Some n → IsLive p state n

-- a name that is held is live
abbrev pub HeldNamesLive : Type 0
HeldNamesLive = (p : Layout) (state : State) (holder : ℕ) (n : Name) → SoundEntries p state
    → Holds state.held holder n → IsLive p state n

-- what stands below a live entry is live
abbrev pub NamesBelowLive : Type 0
NamesBelowLive = (p : Layout) (state : State) (m n : Name) → SoundEntries p state → IsLive p state n
    → IsUnder state.key m n → IsLive p state m

-- no live entry of a bucket has the key
pub record IsMissingInBucket (p : Layout) (state : State) (level bucket : ℕ)
    (key : Key) : Type 0 where
  pub each : (slot : ℕ) → slot < p.cap → 0 < state.book (named level bucket slot)
      → state.key (named level bucket slot) ≢ key

-- a key that its own bucket doesn't have no live entry of the level has
abbrev pub KeysAreSoughtInOneBucket : Type 0
KeysAreSoughtInOneBucket = (p : Layout) (state : State) (level : ℕ) (key : Key)
    → SoundEntries p state
    → IsMissingInBucket p state level (bucket_of_key key (buckets_at p level)) key
    → IsMissing p state level key

-- a book is at most eight for each entry of some other level, one for each version, and all shares
-- held
abbrev pub BooksAreSmall : Type 0
BooksAreSmall = (p : Layout) (state : State) (n : Name) (buckets : ℕ) → SoundEntries p state
    → ((level : ℕ) → level < levels p → buckets_at p level ≤ buckets) → IsLive p state n
    → state.book n ≤ levels p * (buckets * (p.cap * 8)) + versions + holdings (λ _. 1) state.held
