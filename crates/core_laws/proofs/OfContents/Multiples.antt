-- Aligned blocks by the multiples of their sides at which they lie.
use Rattle.std.proofs.Common.{◌≡◌, ℕ, zero, suc, ◌+◌, ◌-◌, ◌*◌, ◌/◌, ◌%◌, ◌^◌, ◌<◌, ◌≤◌, refl, ◌∙◌, ap, subst, arith}
use Rattle.std.proofs.lemmas.Grind.{pow_more}
use native.Mathlib.Nat.{mul_assoc, mul_comm, add-mul}
use Rattle.vw_cell.specs.declared.blocks.Block.{Block}
use Rattle.vw_cell.specs.Counts.{cell_at}
use Rattle.vw_cell.specs.Places.{block_side, octant_of, half_x, half_y, half_z}
use Rattle.vw_cell.proofs.Halves.{block_side-suc}
use Rattle.core_laws.specs.contents.Aligned.{top, world_block, IsAligned, itself, octant, block_at, HasPlace}

-- multiples of twice a side and a rest, as multiples of the side
halved : (q r s i : ℕ) → i ≡ 2 * q + r → q * (2 * s) + s * r ≡ i * s
halved q r s i e =
    let a : q * (2 * s) ≡ 2 * (s * q) = mul_comm q (2 * s) ∙ mul_assoc 2 s q in
    let b : (2 * q + r) * s ≡ (2 * q) * s + r * s = add-mul (2 * q) r s in
    let c : (2 * q) * s ≡ 2 * (q * s) = mul_assoc 2 q s in
    let d : s * q ≡ q * s = mul_comm s q in
    let f : s * r ≡ r * s = mul_comm s r in
    let g : i * s ≡ (2 * q + r) * s = ap (λ (x : ℕ). x * s) e in
    omega (arith, a, b, c, d, f, g)

-- the octant of a block, by its place among the blocks of its level
octant_number : ℕ → ℕ → ℕ → ℕ
octant_number i j k = i % 2 + 2 * (j % 2) + 4 * (k % 2)

axis : (level i h : ℕ) → h ≡ i % 2
    → (i / 2) * block_side (suc level) + block_side (suc level - 1) * h ≡ i * block_side level
axis level i h e =
    let below : suc level - 1 ≡ level = omega arith in
    let side : block_side (suc level - 1) * h ≡ block_side level * (i % 2) =
    ap (λ (l : ℕ). block_side l * h) below ∙ ap (λ (x : ℕ). block_side level * x) e in
    let wide : (i / 2) * block_side (suc level) ≡ (i / 2) * (2 * block_side level) =
    ap (λ (s : ℕ). (i / 2) * s) (block_side-suc level) in
    let whole : i ≡ 2 * (i / 2) + i % 2 = omega arith in
    let all = halved (i / 2) (i % 2) (block_side level) i whole in
    omega (arith, wide, side, all)

octant_at_place : (level i j k : ℕ)
    → octant_of (block_at (suc level) (i / 2) (j / 2) (k / 2)) (octant_number i j k)
    ≡ block_at level i j k
unfolding octant_number
octant_at_place level i j k =
    let o : ℕ = i % 2 + 2 * (j % 2) + 4 * (k % 2) in
    let below : suc level - 1 ≡ level = omega arith in
    let x = axis level i (half_x o) (omega arith) in
    let y = axis level j (half_y o) (omega arith) in
    let z = axis level k (half_z o) (omega arith) in
    λ t. record { level = below t; at = cell_at (x t) (y t) (z t) }

first_corner : (level i : ℕ) → i < 1 → 0 ≡ i * block_side level
first_corner level zero lt = omega arith
first_corner level (suc i) lt = absurd (omega arith)

-- each block at a place of its level is aligned
pub aligned_at : (side up level i j k : ℕ) → level + up ≡ top side → i < 2 ^ up → j < 2 ^ up
    → k < 2 ^ up
    → IsAligned (world_block side) (block_at level i j k)
unfolding octant_number
aligned_at side zero level i j k e x y z =
    let of_x = first_corner level i (omega arith) in
    let of_y = first_corner level j (omega arith) in
    let of_z = first_corner level k (omega arith) in
    let l : top side ≡ level = omega arith in
    let same : world_block side ≡ block_at level i j k =
    (λ t. record { level = l t; at = cell_at (of_x t) (of_y t) (of_z t) }) in
    subst (λ (b : Block). IsAligned (world_block side) b) same itself
aligned_at side (suc up) level i j k e x y z =
    let more : suc up ≡ up + 1 = omega arith in
    let twice : 2 ^ (suc up) ≡ 2 ^ up * 2 = ap (λ (n : ℕ). 2 ^ n) more ∙ pow_more 2 up in
    let over : IsAligned (world_block side) (block_at (suc level) (i / 2) (j / 2) (k / 2)) =
    aligned_at side up (suc level) (i / 2) (j / 2) (k / 2)
    (omega arith) (omega arith) (omega arith) (omega arith) in
    subst (λ (b : Block). IsAligned (world_block side) b) (octant_at_place level i j k)
    (octant (octant_number i j k) (omega arith) (omega arith) over)

double : (level i h : ℕ) → 1 ≤ level
    → i * block_side level + block_side (level - 1) * h ≡ (2 * i + h) * block_side (level - 1)
double level i h some =
    let l : level ≡ suc (level - 1) = omega arith in
    let wide : i * block_side level ≡ i * (2 * block_side (level - 1)) =
    ap (λ (n : ℕ). i * block_side n) l ∙ ap (λ (s : ℕ). i * s) (block_side-suc (level - 1)) in
    let all = halved i h (block_side (level - 1)) (2 * i + h) refl in
    omega (arith, wide, all)

first_place : (t : ℕ) → 0 < 2 ^ (t - t)
first_place t =
    let none : t - t ≡ 0 = omega arith in
    let one : 2 ^ (t - t) ≡ 1 = ap (λ (n : ℕ). 2 ^ n) none in
    omega arith

next_place : (t level i h : ℕ) → 1 ≤ level → level ≤ t → h < 2 → i < 2 ^ (t - level)
    → 2 * i + h < 2 ^ (t - (level - 1))
next_place t level i h some low half lt =
    let up : t - (level - 1) ≡ (t - level) + 1 = omega arith in
    let twice : 2 ^ (t - (level - 1)) ≡ 2 ^ (t - level) * 2 =
    ap (λ (n : ℕ). 2 ^ n) up ∙ pow_more 2 (t - level) in
    omega (arith, twice)

-- each aligned block has a place
pub place_of : (side : ℕ) (b : Block) → IsAligned (world_block side) b → HasPlace side b
place_of side b itself = record {
  i = 0;
  j = 0;
  k = 0;
  same =
      (let none : 0 ≡ 0 * block_side (top side) = omega arith in
      λ t. record { level = top side; at = cell_at (none t) (none t) (none t) });
  low = omega arith;
  x = first_place (top side);
  y = first_place (top side);
  z = first_place (top side);
}
place_of side b (octant {b = a} o lt some aligned) =
    let over : HasPlace side a = place_of side a aligned in
    let low = over.low in
    let half = block_side (a.level - 1) in
    let x : a.at.x + half * half_x o ≡ (2 * over.i + half_x o) * half =
    ap (λ (c : Block). c.at.x + block_side (a.level - 1) * half_x o) over.same
    ∙ double a.level over.i (half_x o) some in
    let y : a.at.y + half * half_y o ≡ (2 * over.j + half_y o) * half =
    ap (λ (c : Block). c.at.y + block_side (a.level - 1) * half_y o) over.same
    ∙ double a.level over.j (half_y o) some in
    let z : a.at.z + half * half_z o ≡ (2 * over.k + half_z o) * half =
    ap (λ (c : Block). c.at.z + block_side (a.level - 1) * half_z o) over.same
    ∙ double a.level over.k (half_z o) some in
    record {
      i = 2 * over.i + half_x o;
      j = 2 * over.j + half_y o;
      k = 2 * over.k + half_z o;
      same = (λ t. record { level = a.level - 1; at = cell_at (x t) (y t) (z t) });
      low = omega arith;
      x = next_place (top side) a.level over.i (half_x o) some low (omega arith) over.x;
      y = next_place (top side) a.level over.j (half_y o) some low (omega arith) over.y;
      z = next_place (top side) a.level over.k (half_z o) some low (omega arith) over.z;
    }
