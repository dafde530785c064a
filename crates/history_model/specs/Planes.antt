-- How a store of side 4 n keeps the tints of a world of side n as set cells: in nine planes, cubes
-- of side n each.
use Rattle.std.specs.Prelude.{◌≡◌, ℕ, ◌+◌, ◌*◌, ◌<◌, ◌==◌, Bool, false, not}
use Rattle.std.proofs.Common.{zero, suc}
use Rattle.std.specs.Int.{bit_at}
use Rattle.vw_cell.specs.declared.cells.Cell.{Cell}
use Rattle.vw_cell.specs.declared.boxes.Boxed.{Boxed}
use Rattle.vw_cell.specs.Counts.{cell_at}
use Rattle.vw_cell.specs.Places.{IsInWorld, is_in_box, half_x, half_y, half_z}
use Rattle.history_model.specs.Worlds.{World, box_at, plus}
use Rattle.history_model.specs.Tints.{Tints}

-- plane 0 has a cell set where the tint isn't 0, and plane 1 + b where bit b of the tint is 1
abbrev pub tells : ℕ → ℕ → Bool
tells zero c = not (c == 0)
tells (suc b) c = bit_at c b == 1

-- the least corner of a plane
abbrev pub plane_at : ℕ → ℕ → Cell
plane_at n zero = cell_at 0 0 0
plane_at n (suc b) = cell_at (2 * n + n * half_x b) (n * half_y b) (n * half_z b)

-- the cube of side n at a corner, and that of a plane
abbrev pub cube_at : ℕ → Cell → Boxed
cube_at n corner = box_at corner (cell_at n n n)

abbrev pub plane_box : ℕ → ℕ → Boxed
plane_box n plane = cube_at n (plane_at n plane)

-- the set cells of the store's world are those that tell these tints
pub record StoresTints (n : ℕ) (tints : Tints) (world : World) : Type 0 where
  pub each : (plane : ℕ) (p : Cell) → plane < 9 → IsInWorld n p
      → world (plus (plane_at n plane) p) ≡ tells plane (tints p)
  pub rest : (q : Cell) → IsInWorld (4 * n) q
      → ((plane : ℕ) → plane < 9 → is_in_box (plane_box n plane) q ≡ false) → world q ≡ false
