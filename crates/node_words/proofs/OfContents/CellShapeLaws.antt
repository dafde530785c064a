-- The shape of given cells has them, is canonical, and is the only such one.
use Rattle.std.proofs.Common.{◌≡◌, ℕ, zero, suc, ◌^◌, ◌<◌, sym, ◌∙◌, subst}
use Rattle.node_words.specs.shapes.Shape.{Shape, Clear, Leaf, octant_shape, has, IsCanonical}
use Rattle.node_words.proofs.OfShapes.ShapeLaws.{has-clear, same_shape, clear_canonical}
use Rattle.node_words.specs.contents.CellShapes.{no_cells, Cells, octant_cells, SameIn, bits_with, leaf_shape, shape_with}
use Rattle.node_words.proofs.OfContents.LeafBits.{bits_below-small, bits_with-bit, leaf_shape-canonical, leaf_shape-has}
use Rattle.node_words.proofs.OfContents.SameCells.{by_octants, octant_has, same_back, same_on}
use Rattle.node_words.proofs.OfContents.OctantShapes.{joined_octant, joined_canonical}

-- the shape of given cells

pub shape_with-octant : (level : ℕ) (cells : Cells) (k : ℕ) → k < 8
    → octant_shape (shape_with (suc level) cells) k ≡ shape_with level (octant_cells level cells k)
unfolding shape_with
shape_with-octant level cells k h =
    joined_octant (λ j. shape_with level (octant_cells level cells j)) k h

pub shape_with-canonical : (level : ℕ) (cells : Cells) → IsCanonical level (shape_with level cells)
unfolding shape_with
shape_with-canonical zero cells = leaf_shape-canonical (bits_with cells) (bits_below-small _ 64)
shape_with-canonical (suc level) cells =
    joined_canonical level _ (λ k h. shape_with-canonical level (octant_cells level cells k))

pub shape_with-has : (level : ℕ) (cells : Cells)
    → SameIn level (has level (shape_with level cells)) cells
unfolding shape_with
shape_with-has zero cells =
    record {
      each = λ x y z lx ly lz. leaf_shape-has (bits_with cells) x y z
          ∙ bits_with-bit cells x y z lx ly lz;
    }
shape_with-has (suc level) cells = by_octants level _ _ (λ k h.
    let s = shape_with (suc level) cells in
    same_on level _ _ _ (octant_has level s k h)
    (subst (λ t. SameIn level (has level t) (octant_cells level cells k))
    (sym (shape_with-octant level cells k h))
    (shape_with-has level (octant_cells level cells k))))

-- a canonical shape is the one of its cells
pub shape_with-only : (level : ℕ) (s : Shape) (cells : Cells) → IsCanonical level s
    → SameIn level (has level s) cells → s ≡ shape_with level cells
shape_with-only level s cells c h =
    let t = same_on level _ _ _ h (same_back level _ _ (shape_with-has level cells)) in
    same_shape level s (shape_with level cells) c (shape_with-canonical level cells)
    (record { each = t.each })

-- the same cells have one shape
pub shape_with-same : (level : ℕ) (p q : Cells) → SameIn level p q
    → shape_with level p ≡ shape_with level q
shape_with-same level p q h =
    shape_with-only level (shape_with level p) q (shape_with-canonical level p)
    (same_on level _ _ _ (shape_with-has level p) h)

-- no cells
pub shape_with-none : (level : ℕ) (cells : Cells) → SameIn level cells no_cells
    → shape_with level cells ≡ Clear
shape_with-none level cells h =
    sym
    (shape_with-only level Clear cells (clear_canonical level)
    (record {
      each = λ x y z lx ly lz. has-clear level x y z
          ∙ sym (h.each x y z lx ly lz);
    }))

-- the bits of the cells are the leaf's
pub shape_with-leaf : (cells : Cells) (bits : ℕ) → bits < 2 ^ 64
    → SameIn 0 (has 0 (Leaf bits)) cells → shape_with 0 cells ≡ leaf_shape bits
unfolding has
shape_with-leaf cells bits small h =
    sym (shape_with-only 0 (leaf_shape bits) cells (leaf_shape-canonical bits small)
    (record { each = λ x y z lx ly lz. leaf_shape-has bits x y z ∙ h.each x y z lx ly lz }))
