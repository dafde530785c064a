-- When a box and a block have a cell in common, and when the block is inside.
use Rattle.std.proofs.Common.{ℕ, ◌+◌, ◌-◌, ◌≤◌, max, arith}
use Rattle.vw_cell.specs.declared.cells.Cell.{Cell}
use Rattle.vw_cell.specs.declared.boxes.Boxed.{Boxed}
use Rattle.vw_cell.specs.declared.blocks.Block.{Block}
use Rattle.vw_cell.specs.Places.{IsWithin, IsInBox, Meets, HoldsBlock, Touches, Covers, block_side}
use Rattle.vw_cell.proofs.Halves.{block_side_pos}

-- the greater of the two beginnings is in both
common : (low size at side : ℕ) → 1 ≤ side → Touches low size at side
    → IsWithin low size (max low at) × IsWithin at side (max low at)
common low size at side pos t = ((omega arith, omega arith), (omega arith, omega arith))

pub meets_when : (a : Boxed) (b : Block) → Touches a.at.x a.size.x b.at.x (block_side b.level)
    → Touches a.at.y a.size.y b.at.y (block_side b.level)
    → Touches a.at.z a.size.z b.at.z (block_side b.level) → Meets a b
meets_when a b x y z =
    let pos = block_side_pos b.level in
    let of_x = common a.at.x a.size.x b.at.x (block_side b.level) pos x in
    let of_y = common a.at.y a.size.y b.at.y (block_side b.level) pos y in
    let of_z = common a.at.z a.size.z b.at.z (block_side b.level) pos z in
    record {
      cell = record { x = max a.at.x b.at.x; y = max a.at.y b.at.y; z = max a.at.z b.at.z };
      in_block = record { x = of_x.1; y = of_y.1; z = of_z.1 };
      in_box = record { x = of_x.0; y = of_y.0; z = of_z.0 };
    }

shared : (low size at side p : ℕ) → IsWithin low size p → IsWithin at side p
    → Touches low size at side
shared low size at side p a b = (omega arith, omega arith, omega arith)

pub meets_only : (a : Boxed) (b : Block) → Meets a b
    → Touches a.at.x a.size.x b.at.x (block_side b.level)
    × Touches a.at.y a.size.y b.at.y (block_side b.level)
    × Touches a.at.z a.size.z b.at.z (block_side b.level)
meets_only a b m =
    (shared _ _ _ _ m.cell.x m.in_box.x m.in_block.x, shared _ _ _ _ m.cell.y m.in_box.y m.in_block.y, shared _ _ _ _ m.cell.z m.in_box.z m.in_block.z)

inside : (low size at side p : ℕ) → Covers low size at side → IsWithin at side p
    → IsWithin low size p
inside low size at side p c w = (omega arith, omega arith)

pub holds_when : (a : Boxed) (b : Block) → Covers a.at.x a.size.x b.at.x (block_side b.level)
    → Covers a.at.y a.size.y b.at.y (block_side b.level)
    → Covers a.at.z a.size.z b.at.z (block_side b.level) → HoldsBlock a b
holds_when a b x y z =
    record {
      each = λ c w. record
          { x = inside _ _ _ _ c.x x w.x; y = inside _ _ _ _ c.y y w.y; z = inside _ _ _ _ c.z z w.z };
    }

-- the ends of a stretch are in it
first_in : (at side : ℕ) → 1 ≤ side → IsWithin at side at
first_in at side pos = (omega arith, omega arith)

last_in : (at side : ℕ) → 1 ≤ side → IsWithin at side (at + side - 1)
last_in at side pos = (omega arith, omega arith)

ends : (low size at side : ℕ) → 1 ≤ side → IsWithin low size at → IsWithin low size (at + side - 1)
    → Covers low size at side
ends low size at side pos a b = (omega arith, omega arith)

pub holds_only : (a : Boxed) (b : Block) → HoldsBlock a b
    → Covers a.at.x a.size.x b.at.x (block_side b.level)
    × Covers a.at.y a.size.y b.at.y (block_side b.level)
    × Covers a.at.z a.size.z b.at.z (block_side b.level)
holds_only a b h =
    let s : ℕ = block_side b.level in
    let pos : 1 ≤ s = block_side_pos b.level in
    let near : IsInBox a b.at =
    h.each b.at (record { x = first_in b.at.x s pos; y = first_in b.at.y s pos; z = first_in b.at.z s pos })
    in
    let corner : Cell = record { x = b.at.x + s - 1; y = b.at.y + s - 1; z = b.at.z + s - 1 } in
    let far : IsInBox a corner =
    h.each corner
    (record { x = last_in b.at.x s pos; y = last_in b.at.y s pos; z = last_in b.at.z s pos })
    in
    (ends _ _ _ _ pos near.x far.x, ends _ _ _ _ pos near.y far.y, ends _ _ _ _ pos near.z far.z)
