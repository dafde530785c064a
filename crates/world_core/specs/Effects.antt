-- What a session's share, and a full bucket, are.
use Rattle.std.specs.Prelude.{◌≡◌, ℕ, ◌<◌}
use Rattle.node_words.specs.declared.shapes.names.Name.{Name}
use Rattle.node_words.specs.declared.keys.Key.{Key}
use Rattle.node_words.specs.declared.shares.Full.{Full}
use Rattle.node_words.specs.Keys.{bucket_of_key}
use Rattle.node_words.specs.Plans.{Layout}
use Rattle.core_laws.specs.places.Names.{named}
use Rattle.core_laws.specs.places.WordIds.{buckets_at}
use Rattle.core_laws.specs.States.{State}
use Rattle.core_laws.specs.Soundness.{IsFull}
use Rattle.core_laws.specs.Events.{IsMissing, Raises, Adds}

-- all lower slots of the name's bucket have entries
pub record IsLowest (state : State) (n : Name) : Type 0 where
  pub each : (slot : ℕ) → slot < n.slot → 0 < state.book (named n.level n.bucket slot)

-- the live entry of the key gets one more share
pub record Finds (p : Layout) (session level : ℕ) (key : Key) (n : Name)
    (old new : State) : Type 0 where
  pub same_level : n.level ≡ level
  pub same_key : old.key n ≡ key
  pub raises : Raises p session n old new

-- no live entry has the key, and one is made in the lowest free slot of the key's bucket
pub record Opens (p : Layout) (session level : ℕ) (key : Key) (n : Name)
    (old new : State) : Type 0 where
  pub same_level : n.level ≡ level
  pub lowest : IsLowest old n
  pub adds : Adds p session n key old new

-- a share of the key's entry comes to the session: one entry has the key, or one is made
pub data TakesOne (p : Layout) (session level : ℕ) (key : Key) (n : Name)
    (old new : State) : Type 0 where
  finds : Finds p session level key n old new → TakesOne p session level key n old new
  opens : Opens p session level key n old new → TakesOne p session level key n old new

-- no live entry has the key, and its bucket has no free slot
pub record MetFull (p : Layout) (level : ℕ) (key : Key) (full : Full) (state : State) : Type 0 where
  pub same_level : full.level ≡ level
  pub its_bucket : full.bucket ≡ bucket_of_key key (buckets_at p level)
  pub missing : IsMissing p state level key
  pub taken : IsFull p state level full.bucket
