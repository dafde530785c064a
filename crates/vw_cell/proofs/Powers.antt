-- Bounds of powers of two.
use Rattle.std.proofs.Common.{ℕ, ◌^◌, ◌≤◌}
use lib.Pow.{pow_mono}

-- a world's side is from 4 to 4,096 cells
pub side_bounds : (n : ℕ) → 2 ≤ n → n ≤ 12 → (2 ^ 2 ≤ 2 ^ n) × (2 ^ n ≤ 2 ^ 12)
side_bounds n low high = (pow_mono low, pow_mono high)
