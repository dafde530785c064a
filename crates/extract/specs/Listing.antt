-- The set cells of a box as voxels, in order.
use Rattle.std.specs.Prelude.{ℕ, zero, suc, ◌+◌, List, [], ◌∷◌, ◌++◌, Bool, true, false}
use Rattle.vw_cell.specs.declared.cells.Cell.{Cell}
use Rattle.vw_cell.specs.declared.boxes.Boxed.{Boxed}
use Rattle.vw_cell.specs.Counts.{cell_at}
use Rattle.vox_read.specs.declared.voxels.Voxel.{Voxel}

-- f 0, then f 1, and so on up to f (n - 1)
unfoldable pub voxels_joined : ℕ → (ℕ → List Voxel) → List Voxel
voxels_joined zero f = []
voxels_joined (suc n) f = voxels_joined n f ++ f n

-- a voxel of colour 1 where the cell is set
abbrev pub voxel_if : Bool → ℕ → ℕ → ℕ → List Voxel
voxel_if true x y z = record { x = x; y = y; z = z; colour = 1 } ∷ []
voxel_if false x y z = []

-- the voxels of a row of n cells from `at` on, told as places from `to` on
abbrev pub row_voxels : (Cell → Bool) → Cell → ℕ → Cell → List Voxel
row_voxels cells at n to =
    voxels_joined n (λ p. voxel_if (cells (cell_at (at.x + p) at.y at.z)) (to.x + p) to.y to.z)

-- a row of a box, told from the box's corner
abbrev pub box_row : (Cell → Bool) → Boxed → ℕ → ℕ → ℕ → List Voxel
box_row cells b z y n =
    row_voxels cells (cell_at b.at.x (b.at.y + y) (b.at.z + z)) n (cell_at 0 y z)

-- the rows of a layer of a box
abbrev pub box_layer : (Cell → Bool) → Boxed → ℕ → List Voxel
box_layer cells b z = voxels_joined b.size.y (λ y. box_row cells b z y b.size.x)

-- the set cells of a box by rising z, then y, then x, told from its corner
abbrev pub voxels_of_box : Boxed → (Cell → Bool) → List Voxel
voxels_of_box b cells = voxels_joined b.size.z (box_layer cells b)
