-- What a store holds, and how that changes. What is held is a list of trees, one for each share,
-- and two lists are alike where they weigh the same by every weight.
use Rattle.std.specs.Prelude.{◌≡◌, ◌≢◌, ℕ, ◌+◌, ◌*◌, ◌<◌, ◌≤◌, ◌⊎◌, Option, Some, None, List, ◌∷◌, slice_index_or, All, AllPairs, length}
use Rattle.node_words.specs.declared.shapes.names.Name.{Name}
use Rattle.node_words.specs.shapes.Shape.{Shape, Clear, IsBranch, IsCanonical, IsPart}
use Rattle.node_words.specs.shapes.Buckets.{bucket_of_shape}
use Rattle.node_words.specs.shapes.Tree.{Tree, root_of, child_of, bits_in, shape_of, node_at, IsSubtree, IsTreeAt}
use Rattle.node_words.specs.shapes.Weights.{weigh, weight_below}
use Rattle.node_words.specs.Plans.{Layout, buckets_at}

-- what a call that met a full bucket wanted
pub record Wanted : Type 0 where
  pub level : ℕ
  pub bucket : ℕ
  pub shape : Shape

-- a node that a call may want: its shape is canonical and not clear, and its bucket is the one that
-- the plan gives it
pub record IsSought (p : Layout) (w : Wanted) : Type 0 where
  pub canonical : IsCanonical w.level w.shape
  pub some : w.shape ≢ Clear
  pub bucket_is : w.bucket ≡ bucket_of_shape p.buckets w.level w.shape
  pub bucket_in : w.bucket < buckets_at p w.level

-- of 4,096 shares, the most that a seat holds, so many leave room for an entry to be freed: its own
-- share goes, and those of its eight children come
abbrev pub most_before_freeing : ℕ
most_before_freeing = 4089

-- so many leave room for a tree to go as a whole: eight shares at each of eleven levels
abbrev pub most_before_release : ℕ
most_before_release = 4008

-- so many leave room for a session's call: what it takes for itself, at most 108 shares, and then
-- for a tree to go as a whole
abbrev pub most_before_call : ℕ
most_before_call = 3900

-- what a store is seen as: its plan, which no call changes, the trees of the shares held, the
-- shapes of the entries added, and what met a full bucket
pub record StoreState : Type 0 where
  pub plan : Layout
  pub held : List Tree
  pub made : List Shape
  pub met : List Wanted

-- t is held
pub record IsHeld (held : List Tree) (t : Tree) : Type 0 where
  pub weighs : (f : Tree → ℕ) → f t ≤ weigh f held

-- t is held, or stands in a tree that is held
pub record IsReached (held : List Tree) (t : Tree) : Type 0 where
  pub over : Tree
  pub is_held : IsHeld held over
  pub stands : IsSubtree t over

-- a share of the name is held
pub record HoldsName (held : List Tree) (n : Name) : Type 0 where
  pub tree : Tree
  pub is_held : IsHeld held tree
  pub root : root_of tree ≡ Some n

-- a share of the name, or of a node above it, is held
pub record ReachesName (held : List Tree) (n : Name) : Type 0 where
  pub tree : Tree
  pub reached : IsReached held tree
  pub root : root_of tree ≡ Some n

-- P of the tree of a name that is held
abbrev pub ForHeld : List Tree → Name → (Tree → Type 0) → Type 0
ForHeld held n P = (t : Tree) → IsHeld held t → root_of t ≡ Some n → P t

-- P of the tree of a name that is held or stands below one
abbrev pub ForReached : List Tree → Name → (Tree → Type 0) → Type 0
ForReached held n P = (t : Tree) → IsReached held t → root_of t ≡ Some n → P t

-- new has t besides what old has
pub record Gains (old : List Tree) (t : Tree) (new : List Tree) : Type 0 where
  pub weighs : (f : Tree → ℕ) → weigh f new ≡ f t + weigh f old

-- both have the same trees, as often
pub record SameHeld (old new : List Tree) : Type 0 where
  pub weighs : (f : Tree → ℕ) → weigh f new ≡ weigh f old

-- the name of the child in an octant
abbrev pub name_in : List (Option Name) → ℕ → Option Name
name_in children octant = slice_index_or children octant None

-- the names are those of a node's children, by octant, none where nothing stands
pub record AreChildNames (t : Tree) (names : List (Option Name)) : Type 0 where
  pub each : (k : ℕ) → k < 8 → name_in names k ≡ root_of (child_of t k)

-- the bits of the leaf in an octant
abbrev pub bits_of_leaf : List ℕ → ℕ → ℕ
bits_of_leaf leaves octant = slice_index_or leaves octant 0

-- the bits are those of the leaves below a node, by octant, 0 where nothing stands
pub record AreChildBits (t : Tree) (leaves : List ℕ) : Type 0 where
  pub each : (k : ℕ) → k < 8 → bits_of_leaf leaves k ≡ bits_in (child_of t k)

-- the trees of a row are those of the children, and each share is held, counted with repeats
pub record AreHeld (held : List Tree) (children : List (Option Name))
    (row : ℕ → Tree) : Type 0 where
  pub names : (k : ℕ) → k < 8 → root_of (row k) ≡ name_in children k
  pub weighs : (f : Tree → ℕ) → weight_below f row 8 ≤ weigh f held

-- a share of each child is held, counted with repeats
pub record HoldsChildren (held : List Tree) (children : List (Option Name)) : Type 0 where
  pub row : ℕ → Tree
  pub are_held : AreHeld held children row

-- P of the trees of children that are held
abbrev pub ForChildren : List Tree → List (Option Name) → ((ℕ → Tree) → Type 0) → Type 0
ForChildren held children P = (row : ℕ → Tree) → AreHeld held children row → P row

-- some octant has a child
pub record HasChild (children : List (Option Name)) : Type 0 where
  pub octant : ℕ
  pub below : octant < 8
  pub there : name_in children octant ≢ None

-- each child is of the level below this
pub record AreBelow (level : ℕ) (children : List (Option Name)) : Type 0 where
  pub each : (k : ℕ) (n : Name) → k < 8 → name_in children k ≡ Some n → n.level + 1 ≡ level

-- the shares of a row went into the node n over it
pub record Joins (old : List Tree) (row : ℕ → Tree) (n : Name) (new : List Tree) : Type 0 where
  pub weighs : (f : Tree → ℕ) → weigh f new + weight_below f row 8 ≡ f (node_at n row) + weigh f old

-- what is held changes and nothing else
pub record OnlyHeldChanges (old new : StoreState) : Type 0 where
  pub plan : new.plan ≡ old.plan
  pub made : new.made ≡ old.made
  pub met : new.met ≡ old.met

-- nothing changes but that this level, bucket and shape join what met a full bucket, which is the
-- shape's bucket
pub record OnlyMeets (old : StoreState) (level bucket : ℕ) (shape : Shape)
    (new : StoreState) : Type 0 where
  pub sought : IsSought old.plan (record { level = level; bucket = bucket; shape = shape })
  pub plan : new.plan ≡ old.plan
  pub held : new.held ≡ old.held
  pub made : new.made ≡ old.made
  pub met : new.met ≡ record { level = level; bucket = bucket; shape = shape } ∷ old.met

-- a share came: an entry was added for its shape, or there was one; and nothing met a full bucket
pub record Grants (old : StoreState) (shape : Shape) (new : StoreState) : Type 0 where
  pub plan : new.plan ≡ old.plan
  pub made : (new.made ≡ old.made) ⊎ (new.made ≡ shape ∷ old.made)
  pub met : new.met ≡ old.met

-- a tree that may be held: its name's level is one of the world's, each name below has the level of
-- its depth
pub record IsTree (side : ℕ) (t : Tree) : Type 0 where
  pub name : Name
  pub root : root_of t ≡ Some name
  pub in_world : name.level + 2 ≤ side
  pub levels : IsTreeAt name.level t

-- what is held are trees of this world, and a name that is held or below one has one tree
pub record AreTrees (side : ℕ) (held : List Tree) : Type 0 where
  pub each : (t : Tree) → IsHeld held t → IsTree side t
  pub named : (t u : Tree) → IsReached held t → IsReached held u → root_of t ≡ root_of u → t ≡ u

-- each share held has a canonical shape
pub record AreCanonical (held : List Tree) : Type 0 where
  pub each : (t : Tree) (n : Name) → IsHeld held t → root_of t ≡ Some n
      → IsCanonical n.level (shape_of t)

-- a branch that is part of no shape held
pub record IsUnheldBranch (held : List Tree) (p : Shape) : Type 0 where
  pub is_branch : IsBranch p
  pub unheld : (t : Tree) → IsHeld held t → ¬ IsPart p (shape_of t)

-- one turn, and at most eight for each of some different branches of the shape that are part of no
-- shape still held
pub record ReturnsWithin (held : List Tree) (s : Shape) (before after : ℕ) : Type 0 where
  pub freed : List Shape
  pub different : AllPairs (λ p q. p ≢ q) freed
  pub parts : All (λ p. IsPart p s) freed
  pub unheld : All (λ p. IsUnheldBranch held p) freed
  pub turns : after ≤ before + 1 + 8 * length freed
