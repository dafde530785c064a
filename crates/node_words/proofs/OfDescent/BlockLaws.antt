-- From a block to its octants, and from a root to its block.
use Rattle.std.proofs.Common.{◌≡◌, ℕ, zero, suc, ◌-◌, ◌<◌, ◌≤◌, Some, None, Option, List, [], ◌∷◌, refl, sym, ap, subst, ◌∙◌, arith}
use Rattle.node_words.specs.declared.shapes.names.Name.{Name}
use Rattle.node_words.specs.shapes.Shape.{Clear, bits_of, octant_shape}
use Rattle.node_words.specs.shapes.Tree.{Tree, Gone, LeafAt, NodeAt, root_of, child_of, shape_of, bits_in}
use Rattle.node_words.specs.Held.{IsReached, ReachesName, AreTrees, AreChildNames, AreChildBits, name_in, bits_of_leaf}
use Rattle.node_words.proofs.OfShapes.TreeLaws.{shape_of-child}
use Rattle.node_words.proofs.HeldLaws.{reached_child, child_level, held_reached}
use Rattle.node_words.specs.descent.Roots.{IsBlockOf, IsOctantOf, HasBlock, HoldsRoot}

pub block_reached : (held : List Tree) (level : ℕ) (n : Name) → HasBlock held level (Some n)
    → ReachesName held n
block_reached held level n b =
    record { tree = b.tree; reached = b.is_block.reached n refl; root = b.is_block.root }

pub block_level : (held : List Tree) (level : ℕ) (n : Name) → HasBlock held level (Some n)
    → n.level ≡ level
block_level held level n b = b.is_block.of_level n refl

-- what the store tells of a child is what stands in the octant
pub octant_block : (side : ℕ) (held : List Tree) (level : ℕ) (n : Name) (t : Tree) (k : ℕ)
    (child : Option Name) → AreTrees side held → 1 ≤ level → IsBlockOf held level (Some n) t
    → child ≡ root_of (child_of t k) → IsBlockOf held (level - 1) child (child_of t k)
octant_block side held level n t k child trees h b e =
    let r = b.reached n refl in
    record {
      root = sym e;
      reached = λ m q. reached_child held t k r;
      of_level = λ m q.
          (let l = b.of_level n refl in let below = child_level side held t k n m trees r b.root
          (sym e ∙ q) (omega (arith, l, h)) in omega (arith, l, below));
    }

gone : (t : Tree) → root_of t ≡ None → t ≡ Gone
gone Gone e = refl
gone (LeafAt n b) e = cc
gone (NodeAt n a b c d e f g h) r = cc

gone_block : (held : List Tree) (level : ℕ) (t : Tree) → t ≡ Gone → IsBlockOf held level None t
gone_block held level t e =
    record { root = ap root_of e; reached = λ n q. cc; of_level = λ n q. cc }

child_of_gone : (k : ℕ) → child_of Gone k ≡ Gone
child_of_gone zero = refl
child_of_gone (suc k) = refl

-- nothing stands in an octant where nothing stands in the block
pub no_octant : (held : List Tree) (level : ℕ) (t : Tree) (k : ℕ) → IsBlockOf held level None t
    → IsBlockOf held (level - 1) None (child_of t k)
no_octant held level t k b =
    gone_block held (level - 1) (child_of t k)
    (ap (λ (u : Tree). child_of u k) (gone t b.root) ∙ child_of_gone k)

pub clear_block : (held : List Tree) (level : ℕ) (t : Tree) → IsBlockOf held level None t
    → shape_of t ≡ Clear
unfolding shape_of
clear_block held level t b = ap shape_of (gone t b.root)

-- the bits of a leaf's block are those of its shape
pub shape_bits : (t : Tree) → bits_in t ≡ bits_of (shape_of t)
unfolding shape_of
shape_bits Gone = refl
shape_bits (LeafAt n b) = refl
shape_bits (NodeAt n a b c d e f g h) = refl

-- there is an octant where there is a block
pub has_octant : (held : List Tree) (level : ℕ) (block child : Option Name) (k : ℕ)
    → HasBlock held level block
    → ((t : Tree) → IsBlockOf held level block t → IsBlockOf held (level - 1) child (child_of t k))
    → HasBlock held (level - 1) child
has_octant held level block child k b f =
    record { tree = child_of b.tree k; is_block = f b.tree b.is_block }

-- a root that is held has a block, and so has the empty world
pub root_block : (held : List Tree) (side : ℕ) (root : Option Name) → HoldsRoot held side root
    → HasBlock held (side - 2) root
root_block held side None h =
    record { tree = Gone; is_block = gone_block held (side - 2) Gone refl }
root_block held side (Some n) h = record {
  tree = h.0.tree;
  is_block = record {
    root = h.0.root;
    reached = λ m q. held_reached held h.0.tree h.0.is_held;
    of_level = λ m q. (let same : n ≡ m = cc in ap (λ (p : Name). p.level) (sym same) ∙ h.1);
  };
}

-- what the calls of the walk tell, for each tree of the block
pub leaf_told : (held : List Tree) (block : Option Name) (n : Name) (bits : ℕ) → block ≡ Some n
    → ((t : Tree) → IsReached held t → root_of t ≡ Some n → bits ≡ bits_in t) → (t : Tree)
    → IsBlockOf held 0 block t → bits ≡ bits_of (shape_of t)
leaf_told held block n bits e told t b = told t (b.reached n e) (b.root ∙ e) ∙ shape_bits t

pub leaf_clear : (held : List Tree) (block : Option Name) → block ≡ None → (t : Tree)
    → IsBlockOf held 0 block t → 0 ≡ bits_of (shape_of t)
leaf_clear held block e t b =
    sym (ap bits_of (clear_block held 0 t (subst (λ (o : Option Name). IsBlockOf held 0 o t) e b)))

pub child_told : (side : ℕ) (held : List Tree) (level : ℕ) (block child : Option Name) (n : Name)
    (k : ℕ) → block ≡ Some n → AreTrees side held → 1 ≤ level
    → ((t : Tree) → IsReached held t → root_of t ≡ Some n → child ≡ root_of (child_of t k))
    → (t : Tree) → IsBlockOf held level block t → IsBlockOf held (level - 1) child (child_of t k)
child_told side held level block child n k e trees h told t b =
    octant_block side held level n t k child trees h
    (subst (λ (o : Option Name). IsBlockOf held level o t) e b)
    (told t (b.reached n e) (b.root ∙ e))

-- so of all octants at once
pub children_told : (side : ℕ) (held : List Tree) (level : ℕ) (block : Option Name)
    (names : List (Option Name)) (n : Name) → block ≡ Some n → AreTrees side held → 1 ≤ level
    → ((t : Tree) → IsReached held t → root_of t ≡ Some n → AreChildNames t names)
    → (k : ℕ) → k < 8 → IsOctantOf held level block k (name_in names k)
children_told side held level block names n e trees h told k lt =
    child_told side held level block (name_in names k) n k e trees h
    (λ t r root. (told t r root).each k lt)

none_in : (k : ℕ) → k < 8
    → name_in (None ∷ None ∷ None ∷ None ∷ None ∷ None ∷ None ∷ None ∷ []) k ≡ None
none_in zero lt = refl
none_in (suc zero) lt = refl
none_in (suc (suc zero)) lt = refl
none_in (suc (suc (suc zero))) lt = refl
none_in (suc (suc (suc (suc zero)))) lt = refl
none_in (suc (suc (suc (suc (suc zero))))) lt = refl
none_in (suc (suc (suc (suc (suc (suc zero)))))) lt = refl
none_in (suc (suc (suc (suc (suc (suc (suc zero))))))) lt = refl
none_in (suc (suc (suc (suc (suc (suc (suc (suc k)))))))) lt = absurd (omega arith)

pub children_clear : (held : List Tree) (level : ℕ) (block : Option Name) → block ≡ None
    → (k : ℕ) → k < 8 → IsOctantOf held level block k
    (name_in (None ∷ None ∷ None ∷ None ∷ None ∷ None ∷ None ∷ None ∷ []) k)
children_clear held level block e k lt t b =
    subst (λ (o : Option Name). IsBlockOf held (level - 1) o (child_of t k)) (sym (none_in k lt))
    (no_octant held level t k (subst (λ (o : Option Name). IsBlockOf held level o t) e b))

-- the bits of a leaf in an octant are those of the octant's shape
octant_leaf : (t : Tree) (k : ℕ) → bits_in (child_of t k) ≡ bits_of (octant_shape (shape_of t) k)
octant_leaf t k = shape_bits (child_of t k) ∙ ap bits_of (shape_of-child t k)

pub bits_told : (held : List Tree) (block : Option Name) (n : Name) (leaves : List ℕ)
    → block ≡ Some n
    → ((t : Tree) → IsReached held t → root_of t ≡ Some n → AreChildBits t leaves)
    → (t : Tree) → IsBlockOf held 1 block t → (k : ℕ) → k < 8
    → bits_of_leaf leaves k ≡ bits_of (octant_shape (shape_of t) k)
bits_told held block n leaves e told t b k lt =
    (told t (b.reached n e) (b.root ∙ e)).each k lt ∙ octant_leaf t k

zero_in : (k : ℕ) → k < 8 → bits_of_leaf (0 ∷ 0 ∷ 0 ∷ 0 ∷ 0 ∷ 0 ∷ 0 ∷ 0 ∷ []) k ≡ 0
zero_in zero lt = refl
zero_in (suc zero) lt = refl
zero_in (suc (suc zero)) lt = refl
zero_in (suc (suc (suc zero))) lt = refl
zero_in (suc (suc (suc (suc zero)))) lt = refl
zero_in (suc (suc (suc (suc (suc zero))))) lt = refl
zero_in (suc (suc (suc (suc (suc (suc zero)))))) lt = refl
zero_in (suc (suc (suc (suc (suc (suc (suc zero))))))) lt = refl
zero_in (suc (suc (suc (suc (suc (suc (suc (suc k)))))))) lt = absurd (omega arith)

octant_of_clear : (k : ℕ) → bits_of (octant_shape Clear k) ≡ 0
octant_of_clear k = refl

pub bits_clear : (held : List Tree) (block : Option Name) → block ≡ None → (t : Tree)
    → IsBlockOf held 1 block t → (k : ℕ) → k < 8
    → bits_of_leaf (0 ∷ 0 ∷ 0 ∷ 0 ∷ 0 ∷ 0 ∷ 0 ∷ 0 ∷ []) k ≡ bits_of (octant_shape (shape_of t) k)
bits_clear held block e t b k lt =
    zero_in k lt ∙ sym (octant_of_clear k) ∙ ap (λ s. bits_of (octant_shape s k))
    (sym (clear_block held 1 t (subst (λ (o : Option Name). IsBlockOf held 1 o t) e b)))

-- where nothing stands
pub nothing_block : (held : List Tree) (level : ℕ) → IsBlockOf held level None Gone
nothing_block held level = gone_block held level Gone refl
