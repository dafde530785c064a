-- The leaves of a layer of a box by the cells that are bare towards each direction.
use Rattle.std.specs.Prelude.{◌≡◌, ℕ, ◌+◌, ◌*◌, ◌/◌, ◌%◌, ◌^◌, ◌<◌, ◌≤◌, List, slice_index, Bool, false}
use Rattle.std.specs.Int.{bit_at}
use Rattle.vw_cell.specs.declared.cells.Cell.{Cell}
use Rattle.vw_cell.specs.declared.boxes.Boxed.{Boxed}
use Rattle.vw_cell.specs.declared.directions.Direction.TheVariants.{LowX, HighX, LowY, HighY, LowZ, HighZ}
use Rattle.vw_cell.specs.Counts.{cell_at}
use Rattle.vw_cell.specs.Faces.{is_exposed}
use Rattle.vox_read.specs.declared.voxels.Voxel.{Voxel}
use Rattle.extract.specs.Layers.{HoldsLayer, bits_show, leaves_in}
use Rattle.extract.specs.Listing.{voxels_joined}
use Rattle.extract.specs.Surface.{sides_number, voxel_of_sides}
use Rattle.extract.specs.declared.bare_layers.BareLayer.{BareLayer}
use Rattle.extract.specs.declared.bare_layers.BareLeaf.{BareLeaf}
use Rattle.extract.specs.declared.bare_layers.Slab.{Slab}

-- the words show which cells of a layer's leaves are bare, of a world of this side
pub record HoldsBare (words : BareLayer) (b : Boxed) (layer side : ℕ)
    (cells : Cell → Bool) : Type 0 where
  pub low_x : HoldsLayer words.low_x b layer (leaves_in b) (is_exposed LowX side cells)
  pub high_x : HoldsLayer words.high_x b layer (leaves_in b) (is_exposed HighX side cells)
  pub low_y : HoldsLayer words.low_y b layer (leaves_in b) (is_exposed LowY side cells)
  pub high_y : HoldsLayer words.high_y b layer (leaves_in b) (is_exposed HighY side cells)
  pub low_z : HoldsLayer words.low_z b layer (leaves_in b) (is_exposed LowZ side cells)
  pub high_z : HoldsLayer words.high_z b layer (leaves_in b) (is_exposed HighZ side cells)

-- the words of the m-th leaf
abbrev pub leaf_at : BareLayer → ℕ → BareLeaf
leaf_at words m = record {
  low_x = slice_index words.low_x m;
  high_x = slice_index words.high_x m;
  low_y = slice_index words.low_y m;
  high_y = slice_index words.high_y m;
  low_z = slice_index words.low_z m;
  high_z = slice_index words.high_z m;
}

-- the bare sides of a cell of a leaf
abbrev pub leaf_sides : BareLeaf → Cell → ℕ
leaf_sides leaf c =
    sides_number (bits_show leaf.low_x c) (bits_show leaf.high_x c) (bits_show leaf.low_y c)
    (bits_show leaf.high_y c) (bits_show leaf.low_z c) (bits_show leaf.high_z c)

-- the bare sides of the four cells of a row of a leaf, a byte for each
pub record TellsRow (row : ℕ) (leaf : BareLeaf) (y z : ℕ) : Type 0 where
  pub each : (x : ℕ) → x < 4 → row / 2 ^ (8 * x) % 256 ≡ leaf_sides leaf (cell_at x y z)

-- four bytes as one number, and the first four bits of a word, a byte for each
abbrev pub four_bytes : ℕ → ℕ → ℕ → ℕ → ℕ
four_bytes a b c d = a + 256 * b + 65536 * c + 16777216 * d

abbrev pub spread : ℕ → ℕ
spread word = four_bytes (bit_at word 0) (bit_at word 1) (bit_at word 2) (bit_at word 3)

-- the cells of a leaf that have a bare side are among those of a word
pub record IsAny (leaf : BareLeaf) (any : ℕ) : Type 0 where
  pub unset : (c : Cell) → bits_show any c ≡ false → leaf_sides leaf c ≡ 0

-- the same of the words of the first n leaves
pub record HaveAny (words : BareLayer) (anys : List ℕ) (n : ℕ) : Type 0 where
  pub each : (m : ℕ) → m < n → IsAny (leaf_at words m) (slice_index anys m)

-- no cell of a row of a leaf is set in a word
pub record IsRowUnset (bits y z : ℕ) : Type 0 where
  pub each : (x : ℕ) → x < 4 → bits_show bits (cell_at x y z) ≡ false

-- no cell of the leaf has a bare side
pub record IsBlank (leaf : BareLeaf) : Type 0 where
  pub each : (c : Cell) → leaf_sides leaf c ≡ 0

-- so many leaves from each of the first n on as are told have no cell with a bare side
pub record CountsBlank (words : BareLayer) (blanks : List ℕ) (n : ℕ) : Type 0 where
  pub each : (m i : ℕ) → m < n → i < slice_index blanks m → IsBlank (leaf_at words (m + i))

-- the same from the m-th on, and so many from there
pub record CountsFrom (words : BareLayer) (blanks : List ℕ) (n m run : ℕ) : Type 0 where
  pub each : (j i : ℕ) → m ≤ j → j < n → i < slice_index blanks j
      → IsBlank (leaf_at words (j + i))
  pub here : (i : ℕ) → i < run → IsBlank (leaf_at words (m + i))

-- a layer of leaves of a world of this side, with what is counted of it
pub record HoldsSlab (slab : Slab) (b : Boxed) (layer side : ℕ) (cells : Cell → Bool) : Type 0 where
  pub bare : HoldsBare slab.words b layer side cells
  pub any : HaveAny slab.words slab.anys (leaves_in b)
  pub blank : CountsBlank slab.words slab.blanks (leaves_in b)

-- a row of n cells of a leaf from `at` on, told as places from `to` on
abbrev pub run_of_sides : BareLeaf → Cell → ℕ → Cell → List Voxel
run_of_sides leaf at n to =
    voxels_joined n
    (λ p. voxel_of_sides (leaf_sides leaf (cell_at (at.x + p) at.y at.z)) (to.x + p) to.y to.z)

-- the same by what is told of the four cells of a row, from the x-th on
abbrev pub run_told : ℕ → ℕ → ℕ → Cell → List Voxel
run_told row x n to =
    voxels_joined n (λ p. voxel_of_sides (row / 2 ^ (8 * (x + p)) % 256) (to.x + p) to.y to.z)

-- n cells of a row of a box from the p-th on
abbrev pub part_of_row : (Cell → ℕ) → Boxed → ℕ → ℕ → ℕ → ℕ → List Voxel
part_of_row sides b z y p n =
    voxels_joined n
    (λ i. voxel_of_sides (sides (cell_at (b.at.x + (p + i)) (b.at.y + y) (b.at.z + z))) (p + i) y z)
