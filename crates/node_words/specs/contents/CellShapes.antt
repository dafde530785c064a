-- The canonical shape of given cells. An edit or a version names what a block has to be by the
-- cells alone.
use Rattle.std.specs.Prelude.{◌≡◌, ℕ, ◌+◌, ◌-◌, ◌*◌, ◌/◌, ◌%◌, ◌^◌, ◌<◌, Bool, true, false, ◌&&◌, if◌then◌else◌}
use Rattle.std.proofs.Common.{zero, suc}
use Rattle.node_words.specs.Sums.{one_if}
use Rattle.node_words.specs.Places.{block_side, half_x, half_y, half_z}
use Rattle.node_words.specs.shapes.Shape.{Shape, Clear, Leaf, branch_of}

-- which cells of a block are set, by their place in the block
abbrev pub Cells : Type 0
Cells = ℕ → ℕ → ℕ → Bool

-- no cell, and every cell
abbrev pub no_cells : Cells
no_cells = λ x y z. false

abbrev pub all_cells : Cells
all_cells = λ x y z. true

-- the cells of octant k, which is of this level, of a block of the next
abbrev pub octant_cells : ℕ → Cells → ℕ → Cells
octant_cells level cells k = λ x y z.
    cells (half_x k * block_side level + x) (half_y k * block_side level + y)
    (half_z k * block_side level + z)

-- both have the same cells in a block of this level
pub record SameIn (level : ℕ) (p q : Cells) : Type 0 where
  pub each : (x y z : ℕ) → x < block_side level → y < block_side level → z < block_side level
      → p x y z ≡ q x y z

-- the number whose first n bits are those of the test
unfoldable pub bits_below : (ℕ → Bool) → ℕ → ℕ
bits_below test zero = 0
bits_below test (suc n) = one_if (test n) * 2 ^ n + bits_below test n

-- the 64 bits of a leaf with these cells
abbrev pub bits_with : Cells → ℕ
bits_with cells = bits_below (λ i. cells (i % 4) (i / 4 % 4) (i / 16)) 64

-- the shape of a leaf's bits
abbrev pub leaf_shape : ℕ → Shape
leaf_shape zero = Clear
leaf_shape (suc bits) = Leaf (suc bits)

abbrev pub is_clear : Shape → Bool
is_clear Clear = true
is_clear _ = false

-- the first n octants are clear
unfoldable pub are_clear : (ℕ → Shape) → ℕ → Bool
are_clear octants zero = true
are_clear octants (suc n) = are_clear octants n && is_clear (octants n)

-- the shape of eight octants: clear where all of them are
abbrev pub joined_shape : (ℕ → Shape) → Shape
joined_shape octants = if are_clear octants 8 then Clear else branch_of octants

-- the canonical shape of a block of this level with these cells
unfoldable pub shape_with : ℕ → Cells → Shape
shape_with zero cells = leaf_shape (bits_with cells)
shape_with (suc level) cells = joined_shape (λ k. shape_with level (octant_cells level cells k))

-- the shape of a block of this level all of whose cells are set
unfoldable pub full_shape : ℕ → Shape
full_shape zero = Leaf (2 ^ 64 - 1)
full_shape (suc level) = branch_of (λ k. full_shape level)
