-- Bounds of a model's sizes and of the numbers of its places.
use Rattle.std.proofs.Common.{◌≡◌, Bool, ◌+◌, ◌*◌, ◌<◌, ◌≤◌, arith}
use Rattle.std.proofs.lemmas.Nat.{mul-le, mul-add-lt, same_from_place}
use Rattle.vw_cell.specs.declared.cells.Cell.{Cell}
use Rattle.vw_cell.specs.Counts.{IsBelow, number_below, number_below-le}
use Rattle.vox_read.specs.declared.voxels.Voxel.{Voxel}
use Rattle.vox_read.specs.Contents.{IsSize, IsInsideModel}
use Rattle.vox_read.specs.Places.{voxel_place, index_of, volume_of}

pub layer_small : (size : Cell) → IsSize size → size.y * size.z ≤ 256 * 256
layer_small size s = mul-le size.y size.z 256 256 s.y.1 s.z.1

pub volume_small : (size : Cell) → IsSize size → volume_of size ≤ 256 * (256 * 256)
volume_small size s = mul-le size.x (size.y * size.z) 256 (256 * 256) s.x.1 (layer_small size s)

-- the row of a place, among all rows
pub row_below : (size c : Cell) → IsBelow size c → c.z * size.y + c.y < size.y * size.z
row_below size c b = mul-add-lt c.z size.y c.y size.z b.z b.y

pub index_below : (size c : Cell) → IsBelow size c → index_of size c < volume_of size
index_below size c b =
    mul-add-lt (c.z * size.y + c.y) size.x c.x (size.y * size.z) (row_below size c b) b.x

pub place_below : (size : Cell) (v : Voxel) → IsInsideModel size v → IsBelow size (voxel_place v)
place_below size v s = record { x = s.x; y = s.y; z = s.z }

-- what the arithmetic of a place's number passes through
pub rows_fit : (size : Cell) (v : Voxel) → IsSize size → IsInsideModel size v
    → v.z * size.y + v.y < 65536
rows_fit size v s inside =
    omega (arith, row_below size (voxel_place v) (place_below size v inside), layer_small size s)

pub index_fits : (size : Cell) (v : Voxel) → IsSize size → IsInsideModel size v
    → (v.z * size.y + v.y) * size.x + v.x < 16777216
index_fits size v s inside =
    omega (arith, index_below size (voxel_place v) (place_below size v inside), volume_small size s)

-- two places with one number are one place
pub same_place : (size c d : Cell) → IsBelow size c → IsBelow size d
    → index_of size c ≡ index_of size d → (c.x ≡ d.x) × (c.y ≡ d.y) × (c.z ≡ d.z)
same_place size c d of_c of_d e =
    let outer : (c.z * size.y + c.y ≡ d.z * size.y + d.y) × (c.x ≡ d.x) =
    same_from_place (c.z * size.y + c.y) c.x (d.z * size.y + d.y) d.x size.x of_c.x of_d.x e
    in
    let inner : (c.z ≡ d.z) × (c.y ≡ d.y) =
    same_from_place c.z c.y d.z d.y size.y of_c.y of_d.y outer.0 in
    (outer.1, inner.1, inner.0)

-- a count of places fits 32 bits
pub count_small : (size : Cell) (test : Cell → Bool) → IsSize size
    → number_below size test ≤ 16777216
count_small size test s =
    let layer : size.y * size.x ≤ 256 * 256 = mul-le size.y size.x 256 256 s.y.1 s.x.1 in
    let all : size.z * (size.y * size.x) ≤ 256 * (256 * 256) =
    mul-le size.z (size.y * size.x) 256 (256 * 256) s.z.1 layer in
    omega (arith, number_below-le size test, all)
