-- Bounds of squares.
use Rattle.std.proofs.Common.{ℕ, ◌*◌, ◌≤◌}
use Rattle.std.proofs.Math.Nat.{mul-le-mul}

pub square_bound : (n : ℕ) → n ≤ 65535 → n * n ≤ 65535 * 65535
square_bound n h = mul-le-mul h h
