-- How a stencil keeps a model's cells: 64 bits for each leaf of 4 x 4 x 4 places.
use Rattle.std.specs.Prelude.{◌≡◌, ℕ, ◌+◌, ◌-◌, ◌*◌, ◌/◌, ◌%◌, ◌<◌, ◌≤◌, ◌==◌, Bool, true, List, length, map, slice_index, min}
use Rattle.std.specs.Int.{bit_at}
use Rattle.vw_cell.specs.declared.cells.Cell.{Cell}
use Rattle.vw_cell.specs.declared.boxes.Boxed.{Boxed}
use Rattle.vw_cell.specs.Counts.{cell_at, IsBelow}
use Rattle.vw_cell.specs.Places.{is_in_box}
use Rattle.vox_read.specs.declared.voxels.Voxel.{Voxel}
use Rattle.vox_read.specs.Contents.{Content, IsSize, is_cell, colour_at}
use Rattle.node_words.specs.shapes.Shape.{bit_number}
use Rattle.history_model.specs.Worlds.{box_at, less}

-- how many leaves a size takes on one axis, and where the leaf of a place stands among them
abbrev pub leaves_of : ℕ → ℕ
leaves_of size = (size + 3) / 4

abbrev pub leaf_number : Cell → ℕ → ℕ → ℕ → ℕ
leaf_number size x y z = (z * leaves_of size.y + y) * leaves_of size.x + x

-- the cell's bit
abbrev pub cell_bit : Cell → List ℕ → Cell → Bool
cell_bit size words q =
    bit_at (slice_index words (leaf_number size (q.x / 4) (q.y / 4) (q.z / 4)))
    (bit_number (q.x % 4) (q.y % 4) (q.z % 4)) == 1

-- a model as a stamp sees it: its size, and the bits of its leaves
pub record Drawn : Type 0 where
  pub size : Cell
  pub words : List ℕ

-- the cells of a drawn model
abbrev pub drawn_cells : Drawn → Cell → Bool
drawn_cells drawn q = cell_bit drawn.size drawn.words q

-- there is a word for each leaf
pub record HasLeaves (size : Cell) (words : List ℕ) : Type 0 where
  pub is_size : IsSize size
  pub number : length words ≡ leaves_of size.z * leaves_of size.y * leaves_of size.x

-- the word is that of a leaf of the model, counted from 1,024 leaves before its least corner, where
-- there is one
pub record IsWord (drawn : Drawn) (x y z word : ℕ) : Type 0 where
  pub each : (i j k : ℕ) → i < leaves_of drawn.size.x → j < leaves_of drawn.size.y
      → k < leaves_of drawn.size.z → x ≡ 1024 + i → y ≡ 1024 + j → z ≡ 1024 + k
      → (b : ℕ) → b < 64
      → (bit_at word b == 1) ≡ drawn_cells drawn
      (cell_at (4 * i + b % 4) (4 * j + b / 4 % 4) (4 * k + b / 16))

-- it is drawn as the model is
pub record Draws (model : Content) (drawn : Drawn) : Type 0 where
  pub size : drawn.size ≡ model.size
  pub each : (q : Cell) → IsBelow model.size q → drawn_cells drawn q ≡ is_cell model.voxels q

-- the places where this bit of the model's colour is 1 are drawn
pub record DrawsBit (model : Content) (bit : ℕ) (drawn : Drawn) : Type 0 where
  pub size : drawn.size ≡ model.size
  pub each : (q : Cell) → IsBelow model.size q
      → drawn_cells drawn q ≡ (bit_at (colour_at model.voxels q) bit == 1)

-- the voxel with one bit of its colour as its colour, and the model with such voxels
abbrev pub with_bit : ℕ → Voxel → Voxel
with_bit bit v = record { x = v.x; y = v.y; z = v.z; colour = bit_at v.colour bit }

abbrev pub bit_model : ℕ → Content → Content
bit_model bit model = record { size = model.size; voxels = map (with_bit bit) model.voxels }

-- of a model from `low` on, of this size on one axis: the leaves that `side` places from `at` on
-- touch
abbrev pub first_leaf : ℕ → ℕ → ℕ
first_leaf low at = (at - low) / 4

abbrev pub last_leaf : ℕ → ℕ → ℕ → ℕ → ℕ
last_leaf low size at side = min ((at + side - low + 3) / 4) (leaves_of size)

-- each word of these leaves is the same
pub record AllWords (size : Cell) (words : List ℕ) (from to : Cell) (want : ℕ) : Type 0 where
  pub each : (x y z : ℕ) → from.x ≤ x → x < to.x → from.y ≤ y → y < to.y → from.z ≤ z → z < to.z
      → slice_index words (leaf_number size x y z) ≡ want

-- the box has the cube's places, counted from a model's least corner, those before it left out
pub record IsPart (place at : Cell) (side : ℕ) (inside : Boxed) : Type 0 where
  pub x : (inside.at.x ≡ at.x - place.x)
      × (inside.size.x ≡ at.x + side - place.x - (at.x - place.x))
  pub y : (inside.at.y ≡ at.y - place.y)
      × (inside.size.y ≡ at.y + side - place.y - (at.y - place.y))
  pub z : (inside.at.z ≡ at.z - place.z)
      × (inside.size.z ≡ at.z + side - place.z - (at.z - place.z))

-- two words of the leaf with this number on each axis have the same bits of its places in the box
pub record IsSameWord (inside : Boxed) (x y z left right : ℕ) : Type 0 where
  pub each : (i j k : ℕ) → i < 4 → j < 4 → k < 4
      → is_in_box inside (cell_at (4 * x + i) (4 * y + j) (4 * z + k)) ≡ true
      → (bit_at left (bit_number i j k) == 1) ≡ (bit_at right (bit_number i j k) == 1)

-- this leaf has the same bits of the box in both
abbrev pub IsSameLeaf : Cell → List ℕ → List ℕ → Boxed → ℕ → ℕ → ℕ → Type 0
IsSameLeaf size left right inside x y z =
    IsSameWord inside x y z (slice_index left (leaf_number size x y z))
    (slice_index right (leaf_number size x y z))

-- these leaves have the same bits of the box in both
pub record SameInside (size : Cell) (left right : List ℕ) (from to : Cell)
    (inside : Boxed) : Type 0 where
  pub each : (x y z : ℕ) → from.x ≤ x → x < to.x → from.y ≤ y → y < to.y → from.z ≤ z → z < to.z
      → IsSameLeaf size left right inside x y z

-- the model's places in a cube of the world are all set, or all unset
pub record AllDrawn (drawn : Drawn) (place at : Cell) (side : ℕ) (set : Bool) : Type 0 where
  pub each : (x y z : ℕ) → x < side → y < side → z < side
      → is_in_box (box_at place drawn.size) (cell_at (at.x + x) (at.y + y) (at.z + z)) ≡ true
      → drawn_cells drawn (less (cell_at (at.x + x) (at.y + y) (at.z + z)) place) ≡ set

-- two drawn models of one size have the same of their places in a cube of the world
pub record Agree (a b : Drawn) (place at : Cell) (side : ℕ) : Type 0 where
  pub size : a.size ≡ b.size
  pub each : (x y z : ℕ) → x < side → y < side → z < side
      → is_in_box (box_at place a.size) (cell_at (at.x + x) (at.y + y) (at.z + z)) ≡ true
      → drawn_cells a (less (cell_at (at.x + x) (at.y + y) (at.z + z)) place)
      ≡ drawn_cells b (less (cell_at (at.x + x) (at.y + y) (at.z + z)) place)
