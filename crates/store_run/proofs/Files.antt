-- The file of a box.
use Rattle.std.proofs.Common.{◌≡◌, ℕ, ◌+◌, ◌-◌, ◌^◌, ◌<◌, ◌≤◌, zero, suc, Bool, List, refl, sym, ◌∙◌, ap, arith}
use Rattle.vw_cell.specs.declared.boxes.Boxed.{Boxed}
use Rattle.vw_cell.specs.declared.cells.Cell.{Cell}
use Rattle.vw_cell.specs.Counts.{cell_at}
use Rattle.vw_cell.specs.Places.{IsInBlock, IsInWorld, FitsAt, block_side}
use Rattle.vox_read.specs.declared.voxels.Voxel.{Voxel}
use Rattle.vox_write.specs.Written.{model_file}
use Rattle.history_model.specs.Worlds.{World}
use Rattle.node_words.specs.shapes.Shape.{Shape, ShowsCells, has}
use Rattle.core_laws.specs.contents.Aligned.{world_block}
use Rattle.node_words.specs.descent.Roots.{cells_of}
use Rattle.node_words.proofs.OfDescent.LookLaws.{root_side}
use Rattle.extract.specs.Listing.{voxels_joined, voxel_if, box_row, box_layer}
use Rattle.extract.specs.Saved.{file_of_box}

-- it goes by the cells of the box alone

abbrev pub SameIn : Boxed → (Cell → Bool) → (Cell → Bool) → Type 0
SameIn b f g = (x y z : ℕ) → x < b.size.x → y < b.size.y → z < b.size.z
    → f (cell_at (b.at.x + x) (b.at.y + y) (b.at.z + z)) ≡ g
    (cell_at (b.at.x + x) (b.at.y + y) (b.at.z + z))

pub joined-same : (n : ℕ) (f g : ℕ → List Voxel) → ((i : ℕ) → i < n → f i ≡ g i)
    → voxels_joined n f ≡ voxels_joined n g
unfolding voxels_joined
joined-same zero f g same = refl
joined-same (suc n) f g same =
    rw (joined-same n f g (λ i lt. same i (omega arith)), same n (omega arith)) refl

pub same_file : (b : Boxed) (f g : Cell → Bool) → SameIn b f g → file_of_box b f ≡ file_of_box b g
same_file b f g same =
    ap (λ (voxels : List Voxel). model_file (record { size = b.size; voxels = voxels }))
    (joined-same b.size.z (box_layer f b) (box_layer g b) (λ z of_z.
    joined-same b.size.y (λ y. box_row f b z y b.size.x) (λ y. box_row g b z y b.size.x) (λ y of_y.
    joined-same b.size.x _ _ (λ x of_x.
    ap (λ (set : Bool). voxel_if set (0 + x) y z) (same x y z of_x of_y of_z)))))

world_within : (side : ℕ) → 2 ^ side ≤ block_side (side - 2)
world_within zero = omega arith
world_within (suc zero) = omega arith
world_within (suc (suc n)) =
    let same : 2 ^ (suc (suc n)) ≡ block_side n =
    root_side n (suc (suc n)) (omega arith) (omega arith) in
    let level : suc (suc n) - 2 ≡ n = omega arith in
    let sides : block_side (suc (suc n) - 2) ≡ block_side n = ap block_side level in
    omega (arith, same, sides)

from_origin : (x : ℕ) → x - 0 ≡ x
from_origin x = omega arith

-- a shape has the cells of the world that it shows
pub shown_at : (side : ℕ) (s : Shape) (w : World) → ShowsCells (world_block side) s w → (c : Cell)
    → IsInWorld (2 ^ side) c → cells_of (side - 2) s c ≡ w c
shown_at side s w shows c inside =
    let wide = world_within side in
    let x = inside.x in let y = inside.y in let z = inside.z in
    let there : IsInBlock (world_block side) c =
    record {
      x = (omega arith, omega arith);
      y = (omega arith, omega arith);
      z =
          (omega arith, omega arith);
    } in
    (λ t. has (side - 2) s (sym (from_origin c.x) t) (sym (from_origin c.y) t)
    (sym (from_origin c.z) t)) ∙ shows.each c there

pub shown_in : (side : ℕ) (b : Boxed) (s : Shape) (w : World) → ShowsCells (world_block side) s w
    → FitsAt b.at b.size (2 ^ side)
    → SameIn b (cells_of (side - 2) s) w
shown_in side b s w shows fits x y z of_x of_y of_z =
    let fx = fits.x in let fy = fits.y in let fz = fits.z in
    shown_at side s w shows (cell_at (b.at.x + x) (b.at.y + y) (b.at.z + z))
    (record { x = omega arith; y = omega arith; z = omega arith })
