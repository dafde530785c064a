-- What a call of a store for one thread did, where the traits of stores leave it open.
use Rattle.std.specs.Prelude.{◌≡◌, ℕ, ◌+◌, ◌-◌, ◌≤◌, ◌∷◌}
use Rattle.node_words.specs.declared.shapes.names.Name.{Name}
use Rattle.node_words.specs.declared.keys.Key.{Key}
use Rattle.node_words.specs.Keys.{bucket_of_key}
use Rattle.core_laws.specs.places.WordIds.{buckets_at}
use Rattle.core_laws.specs.Soundness.{IsFull}
use Rattle.one_store.specs.entries.Words.{book_in, key_in, IsLowestFree}
use Rattle.one_store.specs.entries.Changes.{SetsBook, PutsEntry}
use Rattle.one_store.specs.notes.Changes.{MakesNothing}
use Rattle.one_store.specs.Known.{Known, core_of}
use Rattle.one_store.specs.Steps.{Moves, shape_over}

-- the live entry n got one more share, and nothing else changed
pub record SharesEntry (old : Known) (n : Name) (new : Known) : Type 0 where
  pub words : SetsBook old.words n (book_in old.words n + 1) new.words
  pub roots : new.roots ≡ old.roots
  pub only : MakesNothing old.told new.told

-- a live entry got one more share, and those of its children went back: no entry was added
pub record JoinsEntry (old new : Known) : Type 0 where
  pub moves : Moves old new
  pub only : MakesNothing old.told new.told

-- an entry of this key was added in the lowest free slot of the key's bucket, and its shape alone
-- joined what was made
pub record MakesEntry (old : Known) (level : ℕ) (key : Key) (n : Name) (new : Known) : Type 0 where
  pub level_is : n.level ≡ level
  pub bucket_is : n.bucket ≡ bucket_of_key key (buckets_at old.words.plan level)
  pub lowest : IsLowestFree old.words level n.bucket n.slot
  pub words : PutsEntry old.words n key new.words
  pub roots : new.roots ≡ old.roots
  pub made : new.told.made ≡ shape_over level (key_in old.words) key ∷ old.told.made

-- each slot of the key's bucket is live, and no entry and no root changed
pub record FindsFull (old : Known) (level : ℕ) (key : Key) (bucket : ℕ) (new : Known) : Type 0 where
  pub bucket_is : bucket ≡ bucket_of_key key (buckets_at old.words.plan level)
  pub full : IsFull old.words.plan (core_of old) level bucket
  pub words : new.words ≡ old.words
  pub roots : new.roots ≡ old.roots

-- a share of n was given back: one of several is one less, and the last one frees the entry
pub record GivesBack (old : Known) (n : Name) (new : Known) : Type 0 where
  pub several : 2 ≤ book_in old.words n → SetsBook old.words n (book_in old.words n - 1) new.words
  pub last : book_in old.words n ≡ 1 → book_in new.words n ≡ 0
  pub roots : new.roots ≡ old.roots
