-- The names of a node and of all that stands below it.
use Rattle.std.specs.Prelude.{◌≡◌, ℕ, Option, Some, None}
use Rattle.std.proofs.Common.{zero, suc}
use Rattle.node_words.specs.shapes.Shape.{Shape, Clear, Leaf, Branch}
use Rattle.node_words.specs.declared.shapes.names.Name.{Name}

-- no node, the name and bits of a leaf, or a node's name and the trees of its octants
pub data Tree : Type 0 where
  Gone : Tree
  LeafAt : (name : Name) (bits : ℕ) → Tree
  NodeAt : (name : Name) (a b c d e f g h : Tree) → Tree
  deriving Discrete as Tree-discrete

-- the name that a tree begins with
abbrev pub root_of : Tree → Option Name
root_of Gone = None
root_of (LeafAt n bits) = Some n
root_of (NodeAt n a b c d e f g h) = Some n

-- the tree of an octant
abbrev pub child_of : Tree → ℕ → Tree
child_of (NodeAt n a b c d e f g h) zero = a
child_of (NodeAt n a b c d e f g h) (suc zero) = b
child_of (NodeAt n a b c d e f g h) (suc (suc zero)) = c
child_of (NodeAt n a b c d e f g h) (suc (suc (suc zero))) = d
child_of (NodeAt n a b c d e f g h) (suc (suc (suc (suc zero)))) = e
child_of (NodeAt n a b c d e f g h) (suc (suc (suc (suc (suc zero))))) = f
child_of (NodeAt n a b c d e f g h) (suc (suc (suc (suc (suc (suc zero)))))) = g
child_of (NodeAt n a b c d e f g h) (suc (suc (suc (suc (suc (suc (suc zero))))))) = h
child_of _ _ = Gone

-- the node of a name over eight trees
abbrev pub node_at : Name → (ℕ → Tree) → Tree
node_at n row = NodeAt n (row 0) (row 1) (row 2) (row 3) (row 4) (row 5) (row 6) (row 7)

-- what the tree's block contains
unfoldable pub shape_of : Tree → Shape
shape_of Gone = Clear
shape_of (LeafAt n bits) = Leaf bits
shape_of (NodeAt n a b c d e f g h) =
    Branch (shape_of a) (shape_of b) (shape_of c) (shape_of d) (shape_of e) (shape_of f)
    (shape_of g) (shape_of h)

-- the bits of a leaf, and none of anything else
abbrev pub bits_in : Tree → ℕ
bits_in (LeafAt n bits) = bits
bits_in _ = 0

-- u is t or stands below it
pub data IsSubtree : Tree → Tree → Type 0 where
  itself : {t : Tree} → IsSubtree t t
  below : {u t : Tree} (k : ℕ) → IsSubtree u (child_of t k) → IsSubtree u t

-- no node, or a leaf, whose name is of level 0
abbrev pub IsLeafTree : Tree → Type 0
IsLeafTree Gone = Unit {0}
IsLeafTree (LeafAt n bits) = n.level ≡ 0
IsLeafTree (NodeAt n a b c d e f g h) = ⊥

-- no node, or a node above the leaves, whose name is of this level
abbrev pub IsNodeTree : ℕ → Tree → Type 0
IsNodeTree level Gone = Unit {0}
IsNodeTree level (LeafAt n bits) = ⊥
IsNodeTree level (NodeAt n a b c d e f g h) = n.level ≡ level

-- each name has the level of its depth, down to the leaves
unfoldable pub IsTreeAt : ℕ → Tree → Type 0
IsTreeAt zero t = IsLeafTree t
IsTreeAt (suc level) t = IsNodeTree (suc level) t × ((k : ℕ) → IsTreeAt level (child_of t k))
