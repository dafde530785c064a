-- What can be seen of a box: its set cells that have a bare side, each with its bare sides.
use Rattle.std.specs.Prelude.{ℕ, zero, suc, ◌+◌, ◌*◌, List, [], ◌∷◌, Bool}
use Rattle.vw_cell.specs.declared.cells.Cell.{Cell}
use Rattle.vw_cell.specs.declared.boxes.Boxed.{Boxed}
use Rattle.vw_cell.specs.declared.directions.Direction.TheVariants.{LowX, HighX, LowY, HighY, LowZ, HighZ}
use Rattle.vw_cell.specs.Sums.{one_if}
use Rattle.vw_cell.specs.Counts.{cell_at}
use Rattle.vw_cell.specs.Faces.{is_exposed}
use Rattle.vox_read.specs.declared.voxels.Voxel.{Voxel}
use Rattle.extract.specs.Listing.{voxels_joined}

-- the number whose bits 0 to 5 are these
abbrev pub sides_number : Bool → Bool → Bool → Bool → Bool → Bool → ℕ
sides_number a b c d e f =
    one_if a + 2 * one_if b + 4 * one_if c + 8 * one_if d + 16 * one_if e + 32 * one_if f

-- which sides of a cell are bare: bits 0 to 5 are those of -x, +x, -y, +y, -z and +z
abbrev pub bare_sides_of : ℕ → (Cell → Bool) → Cell → ℕ
bare_sides_of side cells c =
    sides_number (is_exposed LowX side cells c) (is_exposed HighX side cells c)
    (is_exposed LowY side cells c) (is_exposed HighY side cells c) (is_exposed LowZ side cells c)
    (is_exposed HighZ side cells c)

-- a voxel with a cell's bare sides in the place of its colour, and none where no side is bare
abbrev pub voxel_of_sides : ℕ → ℕ → ℕ → ℕ → List Voxel
voxel_of_sides zero x y z = []
voxel_of_sides (suc n) x y z = record { x = x; y = y; z = z; colour = suc n } ∷ []

-- the first n cells of a row of a box, for which a function tells the bare sides
abbrev pub row_of_sides : (Cell → ℕ) → Boxed → ℕ → ℕ → ℕ → List Voxel
row_of_sides sides b z y n =
    voxels_joined n
    (λ x. voxel_of_sides (sides (cell_at (b.at.x + x) (b.at.y + y) (b.at.z + z))) x y z)

-- the rows of a layer of a box
abbrev pub layer_of_sides : (Cell → ℕ) → Boxed → ℕ → List Voxel
layer_of_sides sides b z = voxels_joined b.size.y (λ y. row_of_sides sides b z y b.size.x)

-- the set cells of a box of a world of this side that have a bare side, by rising z, then y, then
-- x, told from the box's corner
abbrev pub surface_of_box : ℕ → (Cell → Bool) → Boxed → List Voxel
surface_of_box side cells b = voxels_joined b.size.z (layer_of_sides (bare_sides_of side cells) b)
