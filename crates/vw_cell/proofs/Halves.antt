-- Sides of blocks.
use Rattle.std.proofs.Common.{◌≡◌, ℕ, ◌-◌, ◌*◌, ◌%◌, ◌^◌, ◌<◌, ◌≤◌, suc, arith, ◌∙◌, ap}
use lib.Pow.{pow_mono, pow_pos}
use native.Mathlib.Nat.{pow-suc, mod-eq_of_lt}
use Rattle.vw_cell.specs.Places.{block_side}

-- a half of a block of a world fits 16 bits
pub half_fits : (n : ℕ) → n ≤ 9 → 4 * 2 ^ n < 65536
half_fits n h =
    let bound : 2 ^ n ≤ 2 ^ 9 = pow_mono h in
    omega (arith, bound)

pub shift_exact : (n : ℕ) → n ≤ 9 → 4 * 2 ^ n % 65536 ≡ 4 * 2 ^ n
shift_exact n h = mod-eq_of_lt (half_fits n h)

-- a block is twice as wide as its octants
pub block_side-suc : (n : ℕ) → block_side (suc n) ≡ 2 * block_side n
block_side-suc n = let twice : 2 ^ suc n ≡ 2 ^ n * 2 = pow-suc 2 n in omega (arith, twice)

pub block_side_halves : (n : ℕ) → 1 ≤ n → block_side n ≡ 2 * block_side (n - 1)
block_side_halves n h =
    let e : n ≡ suc (n - 1) = omega arith in (ap block_side e ∙ block_side-suc (n - 1))

-- the side of a block past level 15 is cut
pub large_side : (n : ℕ) → 16 ≤ n → 2 ^ 18 ≤ block_side n
large_side n h =
    let bound : 2 ^ 16 ≤ 2 ^ n = pow_mono h in
    omega (arith, bound)

pub block_side_pos : (n : ℕ) → 1 ≤ block_side n
block_side_pos n = omega (arith, pow_pos n)
