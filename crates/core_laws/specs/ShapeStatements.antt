-- What the laws say of trees and shapes of entries.
use Rattle.std.specs.Prelude.{◌≡◌, ◌≢◌, ℕ, suc, ◌<◌, Some, None, List}
use Rattle.std.specs.List.{Contains}
use Rattle.node_words.specs.declared.shapes.names.Name.{Name}
use Rattle.node_words.specs.shapes.Buckets.{bucket_of_shape}
use Rattle.node_words.specs.shapes.Shape.{Shape, Clear, IsCanonical, IsPart}
use Rattle.node_words.specs.shapes.Tree.{Tree, Gone, LeafAt, node_at, IsSubtree, IsTreeAt}
use Rattle.node_words.specs.declared.keys.Key.{Key}
use Rattle.node_words.specs.Plans.{Layout}
use Rattle.core_laws.specs.places.Names.{named, key_bits, key_child}
use Rattle.core_laws.specs.States.{State, IsLive, tree_at, tree_of, shape_in}
use Rattle.core_laws.specs.LiveTrees.{IsLiveOrGone}
use Rattle.node_words.specs.Enough.{HasEnough}
use Rattle.core_laws.specs.Soundness.{SoundEntries, IsFull}
use Rattle.core_laws.specs.Returning.{IsShapeStored}

-- no node stands where there is no name
abbrev pub GoneTrees : Type 0
GoneTrees = (key : Name → Key) (level : ℕ) → tree_at key level None ≡ Gone

-- a leaf stands at a name of level 0
abbrev pub LeafTrees : Type 0
LeafTrees = (key : Name → Key) (level : ℕ) (n : Name) → level ≡ 0
    → tree_at key level (Some n) ≡ LeafAt n (key_bits (key n))

-- a node over its children's trees stands at a name of a higher level
abbrev pub NodeTrees : Type 0
NodeTrees = (key : Name → Key) (up level : ℕ) (n : Name) → up ≡ suc level
    → tree_at key up (Some n) ≡ node_at n (λ k. tree_at key level (key_child (key n) k))

-- each name in the tree of a live entry has the level of its depth
abbrev pub LiveTreesHaveLevels : Type 0
LiveTreesHaveLevels = (p : Layout) (state : State) (n : Name) → SoundEntries p state
    → IsLive p state n
    → IsTreeAt n.level (tree_of state n)

-- what stands in a tree that stands in a state stands in the state
abbrev pub PartsAreLive : Type 0
PartsAreLive = (p : Layout) (state : State) (t u : Tree) → SoundEntries p state → IsSubtree t u
    → IsLiveOrGone p state u → IsLiveOrGone p state t

-- the shape of a live entry is canonical, and isn't clear
abbrev pub LiveShapesAreCanonical : Type 0
LiveShapesAreCanonical = (p : Layout) (state : State) (n : Name) → SoundEntries p state
    → IsLive p state n
    → IsCanonical n.level (shape_in state n) × (shape_in state n ≢ Clear)

-- a live entry stands in the bucket of its shape
abbrev pub LiveShapesHaveTheirBuckets : Type 0
LiveShapesHaveTheirBuckets = (p : Layout) (state : State) (n : Name) → SoundEntries p state
    → IsLive p state n
    → n.bucket ≡ bucket_of_shape p.buckets n.level (shape_in state n)

-- live entries of one shape are one
abbrev pub ShapesAreStoredOnce : Type 0
ShapesAreStoredOnce = (p : Layout) (state : State) (m n : Name) → SoundEntries p state
    → IsLive p state m
    → IsLive p state n → shape_in state m ≡ shape_in state n → m ≡ n

-- each part of a live entry's shape is the shape of a live entry
abbrev pub PartsAreStored : Type 0
PartsAreStored = (p : Layout) (state : State) (n : Name) (s : Shape) → SoundEntries p state
    → IsLive p state n
    → IsPart s (shape_in state n) → IsShapeStored p state.key state.book s

-- a list with the shape of each entry of a full bucket has as many different shapes as the bucket
abbrev pub FullBucketsHaveEnough : Type 0
FullBucketsHaveEnough = (p : Layout) (state : State) (level bucket : ℕ) (made : List Shape)
    → SoundEntries p state
    → IsFull p state level bucket
    → ((slot : ℕ) → slot < p.cap → Contains made (shape_in state (named level bucket slot)))
    → HasEnough p made level bucket
