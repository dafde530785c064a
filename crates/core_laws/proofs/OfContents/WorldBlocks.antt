-- The block that is the whole world, and what lies in it.
use Rattle.std.proofs.Common.{◌≡◌, ℕ, zero, suc, ◌-◌, ◌*◌, ◌^◌, ◌<◌, ◌≤◌, ◌∙◌, ap, arith}
use Rattle.vw_cell.specs.declared.blocks.Block.{Block}
use Rattle.vw_cell.specs.declared.cells.Cell.{Cell}
use Rattle.vw_cell.specs.Places.{block_side, octant_of, half_x, half_y, half_z, IsInBlock, IsInWorld}
use Rattle.vw_cell.proofs.Halves.{block_side-suc}
use Rattle.core_laws.specs.contents.Aligned.{top, world_block, IsAligned, itself, octant}

wide_from : (level side : ℕ) → side ≡ suc (suc level) → block_side level ≡ 2 ^ side
wide_from level side e =
    let one : block_side (suc level) ≡ 2 * block_side level = block_side-suc level in
    let two : block_side (suc (suc level)) ≡ 2 * block_side (suc level) =
    block_side-suc (suc level) in
    let all : 2 ^ side ≡ 2 ^ (suc (suc level)) = ap (λ (n : ℕ). 2 ^ n) e in
    omega (arith, one, two, all)

-- the world's block is as wide as the world
pub world_wide : (side : ℕ) → 2 ≤ side → block_side (top side) ≡ 2 ^ side
world_wide side low = wide_from (side - 2) side (omega arith)

pub in_world : (side : ℕ) (q : Cell) → 2 ≤ side → IsInBlock (world_block side) q
    → IsInWorld (2 ^ side) q
in_world side q low inside =
    let wide = world_wide side low in
    let x = inside.x in
    let y = inside.y in
    let z = inside.z in
    record { x = omega arith; y = omega arith; z = omega arith }

pub in_block : (side : ℕ) (q : Cell) → 2 ≤ side → IsInWorld (2 ^ side) q
    → IsInBlock (world_block side) q
in_block side q low inside =
    let wide = world_wide side low in
    let x = inside.x in
    let y = inside.y in
    let z = inside.z in
    record {
      x = (omega arith, omega arith);
      y = (omega arith, omega arith);
      z = (omega arith, omega arith);
    }

-- a half of a block's side, where its octant lies in the second half
half_within : (s h : ℕ) → h < 2 → s * h ≤ s
half_within s zero lt = omega arith
half_within s (suc zero) lt = omega arith
half_within s (suc (suc h)) lt = absurd (omega arith)

-- a cell of an octant is one of the block
octant_inside : (b : Block) (o : ℕ) (q : Cell) → o < 8 → 1 ≤ b.level → IsInBlock (octant_of b o) q
    → IsInBlock b q
octant_inside b o q lt some inside =
    let below : b.level ≡ suc (b.level - 1) = omega arith in
    let wide : block_side b.level ≡ 2 * block_side (b.level - 1) = ap block_side below
    ∙ block_side-suc (b.level - 1) in
    let x = inside.x in
    let y = inside.y in
    let z = inside.z in
    let of_x = half_within (block_side (b.level - 1)) (half_x o) (omega arith) in
    let of_y = half_within (block_side (b.level - 1)) (half_y o) (omega arith) in
    let of_z = half_within (block_side (b.level - 1)) (half_z o) (omega arith) in
    record {
      x = (omega arith, omega arith);
      y = (omega arith, omega arith);
      z = (omega arith, omega arith);
    }

pub aligned_in_world : (side : ℕ) (b : Block) (q : Cell) → 2 ≤ side
    → IsAligned (world_block side) b → IsInBlock b q
    → IsInWorld (2 ^ side) q
aligned_in_world side b q low itself inside = in_world side q low inside
aligned_in_world side b q low (octant {b = a} o lt some aligned) inside =
    aligned_in_world side a q low aligned (octant_inside a o q lt some inside)
