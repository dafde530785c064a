-- How far a pose can have come.
use Rattle.std.proofs.Common.{ℕ, ◌≤◌, arith}
use Rattle.std.proofs.lemmas.Int.{ints}
use Rattle.vox_scene.specs.declared.rotations.Vector.{Vector}
use Rattle.vox_scene.specs.Rotations.{IsNearOrigin}

pub within_more : (n m : ℕ) (v : Vector) → n ≤ m → IsNearOrigin n v → IsNearOrigin m v
within_more n m v le w = record {
  x_low = (let h = w.x_low in omega (arith, ints));
  x_high = (let h = w.x_high in omega (arith, ints));
  y_low = (let h = w.y_low in omega (arith, ints));
  y_high = (let h = w.y_high in omega (arith, ints));
  z_low = (let h = w.z_low in omega (arith, ints));
  z_high = (let h = w.z_high in omega (arith, ints));
}
