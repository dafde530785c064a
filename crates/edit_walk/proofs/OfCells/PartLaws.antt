-- The part of a box in an octant has the box's cells there, and what is known of a box that misses
-- or holds a block.
use Rattle.std.proofs.Common.{◌≡◌, ℕ, ◌%◌, ◌^◌, ◌<◌, ◌≤◌, Bool, true, false, refl, sym, arith}
use lib.Pow.{pow_mono, pow_pos}
use native.Mathlib.Nat.{mod-eq_of_lt}
use Rattle.vw_cell.specs.declared.boxes.Boxed.{Boxed}
use Rattle.vw_cell.specs.Counts.{cell_at}
use Rattle.vw_cell.specs.Places.{block_side, IsInBlock, is_in_box, Meets, HoldsBlock}
use Rattle.vw_cell.specs.Tests.{is_in_box_tells, is_in_box_holds}
use Rattle.node_words.specs.descent.Parts.{part_in}
use Rattle.node_words.proofs.OfDescent.PartLaws.{part_has_cells}
use Rattle.node_words.specs.contents.CellShapes.{SameIn, octant_cells, no_cells, all_cells}
use Rattle.edit_walk.specs.cells.Worlds.{world_cells, block_at_origin}

pub part_cells : (level : ℕ) (b : Boxed) (k : ℕ)
    → SameIn level (octant_cells level (world_cells (is_in_box b)) k)
    (world_cells (is_in_box (part_in (block_side level) b k)))
part_cells level b k = record {
  each = λ x y z lx ly lz. sym
      ((part_has_cells (block_side level) k b).each (cell_at x y z)
      (record { x = lx; y = ly; z = lz }));
}

at_origin : (level x y z : ℕ) → x < block_side level → y < block_side level → z < block_side level
    → IsInBlock (block_at_origin level) (cell_at x y z)
at_origin level x y z p q r =
    record {
      x = (omega arith, omega arith);
      y = (omega arith, omega arith);
      z =
          (omega arith, omega arith);
    }

bool_false : (b : Bool) → (b ≡ true → ⊥) → b ≡ false
bool_false true h = absurd (h refl)
bool_false false h = refl

-- the box has no cell of the block
pub box_missed : (b : Boxed) (level : ℕ) → (Meets b (block_at_origin level) → ⊥)
    → SameIn level (world_cells (is_in_box b)) no_cells
box_missed b level missed = record {
  each = λ x y z p q r. bool_false _
      (λ e. missed
      (record { cell = cell_at x y z; in_block = at_origin level x y z p q r; in_box = is_in_box_tells b (cell_at x y z) e }));
}

-- the box has each cell of the block
pub box_held : (b : Boxed) (level : ℕ) → HoldsBlock b (block_at_origin level)
    → SameIn level (world_cells (is_in_box b)) all_cells
box_held b level h =
    record {
      each = λ x y z p q r. is_in_box_holds b (cell_at x y z)
          (h.each (cell_at x y z) (at_origin level x y z p q r));
    }

-- the side of a block, as the code tells it
pub side_bound : (n : ℕ) → n ≤ 10 → (1 ≤ block_side n) × (block_side n ≤ 4096)
side_bound n h =
    let p : 2 ^ n ≤ 2 ^ 10 = pow_mono h in let q : 1 ≤ 2 ^ n = pow_pos n in
    (omega (arith, q), omega (arith, p))

pub side_exact : (n : ℕ) → n ≤ 10 → block_side n % 2 ^ 32 ≡ block_side n
side_exact n h = let p = side_bound n h in mod-eq_of_lt (omega (arith, p.1))
