-- When a state is sound.
use Rattle.std.specs.Prelude.{◌≡◌, ◌≢◌, ℕ, zero, suc, ◌+◌, ◌^◌, ◌<◌, Some, None, List, [], length, All, false}
use Rattle.std.specs.List.{AllPairs, Contains}
use Rattle.core_laws.specs.HistoryModelContents.{Content}
use Rattle.node_words.specs.declared.shapes.names.Name.{Name}
use Rattle.node_words.specs.shapes.Shape.{Shape, Clear, ShowsCells, IsCanonical}
use Rattle.node_words.specs.shapes.Buckets.{bucket_of_shape}
use Rattle.node_words.specs.shapes.Tree.{shape_of}
use Rattle.node_words.specs.declared.keys.Key.{Key}
use Rattle.node_words.specs.declared.keys.Key.TheVariants.{Leaf, Node}
use Rattle.node_words.specs.Held.{HasChild, AreBelow}
use Rattle.node_words.specs.Keys.{bucket_of_key}
use Rattle.node_words.specs.Plans.{Layout}
use Rattle.core_laws.specs.places.Names.{IsName, named}
use Rattle.core_laws.specs.places.WordIds.{levels, buckets_at}
use Rattle.core_laws.specs.Logs.{IsLegal}
use Rattle.core_laws.specs.Stores.{stored_in}
use Rattle.core_laws.specs.contents.Aligned.{top, world_block}
use Rattle.core_laws.specs.contents.Versions.{HoldsVersion}
use Rattle.core_laws.specs.States.{State, IsLive, tree_at}
use Rattle.core_laws.specs.Counting.{booked, parented, rooted, holdings}

-- the key is that of an entry of this level: the bits of a leaf with a set cell, or eight places of
-- which one or more have a child of the level below
abbrev pub FitsLevel : ℕ → Key → Type 0
FitsLevel zero (Leaf bits) = (0 < bits) × (bits < 2 ^ 64)
FitsLevel zero (Node children) = ⊥
FitsLevel (suc level) (Leaf bits) = ⊥
FitsLevel (suc level) (Node children) = (length children ≡ 8) × AreBelow (suc level) children
    × HasChild children

-- the entries of a sound state: a live one fits its level and stands in its key's bucket, no two of
-- a level have one key, and each book is the number of references to its name. That children, roots
-- and shares are live, that shapes are canonical and stand in their own buckets follows
pub record SoundEntries (p : Layout) (state : State) : Type 0 where
  pub fits : (n : Name) → IsLive p state n → FitsLevel n.level (state.key n)
  pub placed : (n : Name) → IsLive p state n
      → n.bucket ≡ bucket_of_key (state.key n) (buckets_at p n.level)
  pub once : (m n : Name) → IsLive p state m → IsLive p state n → m.level ≡ n.level
      → state.key m ≡ state.key n → m ≡ n
  pub counted : (f : Name → ℕ)
      → booked p f state ≡ parented p f state + rooted f state + holdings f state.held

-- the versions of a sound state: the log is legal, a root is kept of none but the versions that are
-- kept, is of the top level and has just the cells of its version; none is kept where there are
-- none
pub record SoundVersions (p : Layout) (models : List Content) (state : State) : Type 0 where
  pub legal : IsLegal (2 ^ p.side) models state.log
  pub kept : (v : ℕ) (n : Name) → state.root v ≡ Some n → HoldsVersion state.log v
  pub level : (v : ℕ) (n : Name) → state.root v ≡ Some n → n.level ≡ top p.side
  pub shown : (v : ℕ) → HoldsVersion state.log v
      → ShowsCells (world_block p.side) (shape_of (tree_at state.key (top p.side) (state.root v)))
      (stored_in (2 ^ p.side) models state.log.records v)

pub record Sound (p : Layout) (models : List Content) (state : State) : Type 0 where
  pub entries : SoundEntries p state
  pub versions : SoundVersions p models state

-- each slot of this bucket has a live entry
pub record IsFull (p : Layout) (state : State) (level bucket : ℕ) : Type 0 where
  pub level_in : level < levels p
  pub bucket_in : bucket < buckets_at p level
  pub each : (slot : ℕ) → slot < p.cap → 0 < state.book (named level bucket slot)

-- nothing was done yet: no entry is live, no root is kept, no record was appended, nobody holds a
-- share
pub record IsUntouched (p : Layout) (state : State) : Type 0 where
  pub book : (n : Name) → IsName p n → state.book n ≡ 0
  pub root : (v : ℕ) → state.root v ≡ None
  pub log : state.log
      ≡ record { side = p.side; coloured = false; records = []; marks = [] }
  pub held : (f : Name → ℕ) → holdings f state.held ≡ 0
