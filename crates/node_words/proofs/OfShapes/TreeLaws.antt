-- Laws of trees: levels, octants and what stands below.
use Rattle.std.proofs.Common.{◌≡◌, ◌≢◌, ℕ, zero, suc, ◌-◌, ◌<◌, ◌≤◌, Some, None, refl, subst, arith, inl, inr}
use Rattle.std.proofs.lemmas.Bool.{cases_lt}
use Rattle.node_words.specs.declared.shapes.names.Name.{Name}
use Rattle.node_words.specs.shapes.Shape.{Shape, Clear, Leaf, octant_shape, branch_of, bits_of, IsPart, whole, within}
use Rattle.node_words.specs.shapes.Tree.{Tree, Gone, LeafAt, NodeAt, node_at, root_of, child_of, shape_of, bits_in, IsSubtree, itself, below, IsTreeAt}

-- the root's name has the tree's level
pub level_of : (level : ℕ) (t : Tree) (n : Name) → IsTreeAt level t → root_of t ≡ Some n
    → n.level ≡ level
unfolding IsTreeAt
level_of l Gone n h e = cc
level_of zero (LeafAt m b) n h e = let f : m ≡ n = cc in rw f at h
level_of zero (NodeAt m a b c d e f g i) n h r = absurd h
level_of (suc l) (LeafAt m b) n h e = absurd h.0
level_of (suc l) (NodeAt m a b c d e f g i) n h r = let j : m ≡ n = cc in rw j at h.0

-- the trees of a tree's octants are of the level below
pub IsTreeAt-child : (level : ℕ) (t : Tree) (k : ℕ) → IsTreeAt (suc level) t
    → IsTreeAt level (child_of t k)
unfolding IsTreeAt
IsTreeAt-child level t k h = h.1 k

pub IsTreeAt-below : (level : ℕ) (t : Tree) (k : ℕ) → 1 ≤ level → IsTreeAt level t
    → IsTreeAt (level - 1) (child_of t k)
IsTreeAt-below level t k h a =
    let e : level ≡ suc (level - 1) = omega arith in
    let P : ℕ → Type 0 = λ l. IsTreeAt l t in
    IsTreeAt-child (level - 1) t k (subst P e a)

pub child_of-gone : (k : ℕ) → child_of Gone k ≡ Gone
child_of-gone zero = refl
child_of-gone (suc k) = refl

-- no node is a tree of any level
pub gone_at : (level : ℕ) → IsTreeAt level Gone
unfolding IsTreeAt
gone_at zero = tt
gone_at (suc level) = (tt, elim [ zero ↦ gone_at level | suc k ↦ gone_at level ])

-- a leaf's name and bits are a tree of level 0
pub leaf_at : (n : Name) (bits : ℕ) → n.level ≡ 0 → IsTreeAt 0 (LeafAt n bits)
unfolding IsTreeAt
leaf_at n bits e = e

pub child_of-node_at : (n : Name) (row : ℕ → Tree) (k : ℕ) → k < 8
    → child_of (node_at n row) k ≡ row k
child_of-node_at n u zero h = refl
child_of-node_at n u (suc zero) h = refl
child_of-node_at n u (suc (suc zero)) h = refl
child_of-node_at n u (suc (suc (suc zero))) h = refl
child_of-node_at n u (suc (suc (suc (suc zero)))) h = refl
child_of-node_at n u (suc (suc (suc (suc (suc zero))))) h = refl
child_of-node_at n u (suc (suc (suc (suc (suc (suc zero)))))) h = refl
child_of-node_at n u (suc (suc (suc (suc (suc (suc (suc zero))))))) h = refl
child_of-node_at n u (suc (suc (suc (suc (suc (suc (suc (suc k)))))))) h = absurd (omega arith)

pub child_of-node_at_past : (n : Name) (row : ℕ → Tree) (k : ℕ) → 8 ≤ k
    → child_of (node_at n row) k ≡ Gone
child_of-node_at_past n u (suc (suc (suc (suc (suc (suc (suc (suc k)))))))) h = refl
child_of-node_at_past n u _ h = absurd (omega arith)

-- a node over trees of one level is a tree of the next
pub node_levels : (level : ℕ) (n : Name) (row : ℕ → Tree) → n.level ≡ suc level
    → ((k : ℕ) → k < 8 → IsTreeAt level (row k)) → IsTreeAt (suc level) (node_at n row)
unfolding IsTreeAt
node_levels level n u e h = (
  e,
  λ k. elim (cases_lt k 8) [
    | inl lt ↦ rw (child_of-node_at n u k lt) (h k lt)
    | inr ge ↦ rw (child_of-node_at_past n u k ge) (gone_at level)
  ],
)

-- the shape of an octant's tree is that octant of the shape
pub shape_of-child : (t : Tree) (k : ℕ) → shape_of (child_of t k) ≡ octant_shape (shape_of t) k
unfolding shape_of
shape_of-child Gone zero = refl
shape_of-child Gone (suc k) = refl
shape_of-child (LeafAt n b) zero = refl
shape_of-child (LeafAt n b) (suc k) = refl
shape_of-child (NodeAt n a b c d e f g h) zero = refl
shape_of-child (NodeAt n a b c d e f g h) (suc zero) = refl
shape_of-child (NodeAt n a b c d e f g h) (suc (suc zero)) = refl
shape_of-child (NodeAt n a b c d e f g h) (suc (suc (suc zero))) = refl
shape_of-child (NodeAt n a b c d e f g h) (suc (suc (suc (suc zero)))) = refl
shape_of-child (NodeAt n a b c d e f g h) (suc (suc (suc (suc (suc zero))))) = refl
shape_of-child (NodeAt n a b c d e f g h) (suc (suc (suc (suc (suc (suc zero)))))) = refl
shape_of-child (NodeAt n a b c d e f g h) (suc (suc (suc (suc (suc (suc (suc zero))))))) = refl
shape_of-child (NodeAt n a b c d e f g h) (suc (suc (suc (suc (suc (suc (suc (suc k)))))))) = refl

pub shape_of-gone : shape_of Gone ≡ Clear
unfolding shape_of
shape_of-gone = refl

pub shape_of-leaf : (n : Name) (bits : ℕ) → shape_of (LeafAt n bits) ≡ Leaf bits
unfolding shape_of
shape_of-leaf n bits = refl

pub shape_of-node : (n : Name) (row : ℕ → Tree)
    → shape_of (node_at n row) ≡ branch_of (λ k. shape_of (row k))
unfolding shape_of
shape_of-node n row = refl

-- the bits of a leaf's tree are those of its shape
pub bits_in-shape : (t : Tree) → bits_in t ≡ bits_of (shape_of t)
unfolding shape_of
bits_in-shape Gone = refl
bits_in-shape (LeafAt n b) = refl
bits_in-shape (NodeAt m a b c d e f g i) = refl

-- a tree begins with a name unless there is no node
pub gone_from_root : (t : Tree) → root_of t ≡ None → t ≡ Gone
gone_from_root Gone e = refl
gone_from_root (LeafAt n b) e = cc
gone_from_root (NodeAt m a b c d e f g h) q = cc

pub root_from_child : (t : Tree) (k : ℕ) (n : Name) → root_of (child_of t k) ≡ Some n
    → (m : Name) × (root_of t ≡ Some m)
root_from_child Gone zero n e = cc
root_from_child Gone (suc k) n e = cc
root_from_child (LeafAt m b) k n e = (m, refl)
root_from_child (NodeAt m a b c d e f g h) k n q = (m, refl)

-- a tree of level 0 with a name is a leaf
pub leaf_from_root : (t : Tree) (n : Name) → IsTreeAt 0 t → root_of t ≡ Some n
    → t ≡ LeafAt n (bits_in t)
unfolding IsTreeAt
leaf_from_root Gone n h e = cc
leaf_from_root (LeafAt m b) n h e = let f : m ≡ n = cc in rw f refl
leaf_from_root (NodeAt m a b c d e f g i) n h r = absurd h

-- an octant of a tree that stands in another stands there too
pub stands_child : {t v : Tree} (k : ℕ) → IsSubtree t v → IsSubtree (child_of t k) v
stands_child k itself = below k itself
stands_child k (below j s) = below j (stands_child k s)

pub stands_further : {t u v : Tree} → IsSubtree t u → IsSubtree u v → IsSubtree t v
stands_further s itself = s
stands_further s (below j r) = below j (stands_further s r)

-- a tree with a name shows something
pub shape_of-some : (t : Tree) → root_of t ≢ None → shape_of t ≢ Clear
unfolding shape_of
shape_of-some Gone ne e = ne refl
shape_of-some (LeafAt n b) ne e = cc
shape_of-some (NodeAt m a b c d e f g h) ne q = cc

-- the shape of a node that stands in a tree is part of the tree's
pub part_from_stands : {t u : Tree} → root_of t ≢ None → IsSubtree t u
    → IsPart (shape_of t) (shape_of u)
part_from_stands ne (itself {t}) = whole (shape_of-some t ne)
part_from_stands ne (below {u} {t} k s) =
    within k (subst (λ p. IsPart (shape_of u) p) (shape_of-child t k) (part_from_stands ne s))

-- a part of a part is a part
pub part_further : {p q s : Shape} → IsPart p q → IsPart q s → IsPart p s
part_further a (whole ne) = a
part_further a (within k b) = within k (part_further a b)
