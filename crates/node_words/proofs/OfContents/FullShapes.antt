-- The shape of all cells.
use Rattle.std.proofs.Common.{◌≡◌, ◌≢◌, ℕ, zero, suc, ◌-◌, ◌^◌, ◌<◌, ◌==◌, refl, sym, ◌∙◌, ap, subst, arith}
use Rattle.std.specs.Int.{bit_at}
use Rattle.node_words.specs.shapes.Shape.{Clear, Leaf, octant_shape, branch_of, bit_number, has, IsCanonical}
use Rattle.node_words.proofs.OfShapes.ShapeLaws.{octant_shape-branch_of, branch_canonical}
use Rattle.node_words.specs.contents.CellShapes.{all_cells, Cells, SameIn, bits_below, bits_with, shape_with, full_shape}
use Rattle.node_words.proofs.OfContents.LeafBits.{leaf_shape-canonical, leaf_shape-has, bits_with-bit}
use Rattle.node_words.proofs.OfContents.SameCells.{by_octants, octant_has, same_back, same_on}
use Rattle.node_words.proofs.OfContents.CellShapeLaws.{shape_with-only}

-- all cells

full_some : (level : ℕ) → full_shape level ≢ Clear
unfolding full_shape
full_some zero = λ e. cc
full_some (suc level) = λ e. cc

pub full_octant : (level k : ℕ) → k < 8 → octant_shape (full_shape (suc level)) k ≡ full_shape level
unfolding full_shape
full_octant level k h = octant_shape-branch_of (λ j. full_shape level) k h

pub full_branch : (level : ℕ)
    → branch_of (λ k. octant_shape (full_shape (suc level)) k) ≡ full_shape (suc level)
unfolding full_shape
full_branch level = refl

pub full_leaf : full_shape 0 ≡ Leaf (2 ^ 64 - 1)
unfolding full_shape
full_leaf = refl

pub full_canonical : (level : ℕ) → IsCanonical level (full_shape level)
unfolding full_shape
full_canonical zero = leaf_shape-canonical (2 ^ 64 - 1) (omega arith)
full_canonical (suc level) =
    branch_canonical level (λ k. full_shape level) 0 (omega arith) (full_some level)
    (λ j h. full_canonical level)

full_bits : bits_with all_cells ≡ 2 ^ 64 - 1
unfolding bits_below
full_bits = refl

full_has : (level : ℕ) → SameIn level (has level (full_shape level)) all_cells
unfolding full_shape
full_has zero = record {
  each = λ x y z lx ly lz.
      leaf_shape-has (2 ^ 64 - 1) x y z
      ∙ ap (λ (b : ℕ). bit_at b (bit_number x y z) == 1) (sym full_bits)
      ∙ bits_with-bit all_cells x y z lx ly lz;
}
full_has (suc level) = by_octants level _ _ (λ k h.
    same_on level _ _ _ (octant_has level (full_shape (suc level)) k h)
    (subst (λ t. SameIn level (has level t) all_cells) (sym (full_octant level k h))
    (full_has level)))

pub shape_with-full : (level : ℕ) (cells : Cells) → SameIn level cells all_cells
    → shape_with level cells ≡ full_shape level
shape_with-full level cells h =
    sym
    (shape_with-only level (full_shape level) cells (full_canonical level)
    (same_on level _ _ _ (full_has level) (same_back level _ _ h)))
