-- What an edit of the cells of a ball in a box makes of a block and of its octants.
use Rattle.std.proofs.Common.{◌≡◌, ℕ, zero, suc, ◌+◌, ◌-◌, ◌<◌, ◌≤◌, ◌==◌, Bool, true, false, Option, List, refl, ◌∙◌, ap, arith, min}
use Rattle.std.specs.Prelude.{bit_and, ◌&&◌}
use Rattle.std.specs.Int.{bit_at}
use Rattle.std.proofs.lemmas.Nat.Bits.{bit_at_and, bit_at-lt}
use Rattle.vw_cell.specs.declared.cells.Cell.{Cell}
use Rattle.vw_cell.specs.declared.balls.Ball.{Ball}
use Rattle.vw_cell.specs.declared.blocks.Block.{Block}
use Rattle.vw_cell.specs.declared.boxes.Boxed.{Boxed}
use Rattle.vw_cell.specs.Counts.{cell_at}
use Rattle.vw_cell.specs.Places.{is_in_ball, is_in_box, octant_of, Meets, HoldsBlock}
use Rattle.vw_cell.specs.Tests.{is_in_box_tells, is_in_box_holds}
use Rattle.node_words.specs.declared.shapes.names.Name.{Name}
use Rattle.node_words.specs.shapes.Shape.{bit_number}
use Rattle.node_words.specs.shapes.Tree.{Tree, root_of, child_of}
use Rattle.node_words.specs.kernels.Leaves.{LeafShows}
use Rattle.node_words.specs.Held.{AreTrees, AreCanonical}
use Rattle.node_words.specs.contents.CellShapes.{Cells, SameIn, octant_cells, no_cells, all_cells}
use Rattle.edit_walk.specs.cells.Worlds.{world_cells, cells_from, ShowsWorld}
use Rattle.edit_walk.proofs.OfCells.PaintLaws.{paints_octant}
use Rattle.edit_walk.proofs.OfCells.WorldLaws.{placed_octant, octant_lies, world_lies, from_nowhere}
use Rattle.edit_walk.proofs.OfCells.WorldPaints.{world_paints}
use Rattle.edit_ops.specs.Clips.{is_in_clip, clipped, MakesClip}

-- bits of two tests at once

and_test : (p q : ℕ) → p < 2 → q < 2 → (min p q == 1) ≡ ((p == 1) && (q == 1))
and_test zero zero h k = refl
and_test zero (suc zero) h k = refl
and_test (suc zero) zero h k = refl
and_test (suc zero) (suc zero) h k = refl
and_test (suc (suc p)) q h k = absurd (omega arith)
and_test p (suc (suc q)) h k = absurd (omega arith)

both_same : (a b v w : Bool) → a ≡ v → b ≡ w → (a && b) ≡ (v && w)
both_same a b v w p q = rw (p, q) refl

pub both_show : (bits a b : ℕ) (block : Block) (f g : Cell → Bool) → LeafShows a block f
    → LeafShows b block g → bits ≡ bit_and a b → LeafShows bits block (λ c. f c && g c)
both_show bits a b block f g p q e =
    record {
      each = λ x y z lx ly lz.
          let i : ℕ = bit_number x y z in
          ap (λ (n : ℕ). bit_at n i == 1) e ∙ ap (λ (n : ℕ). n == 1) (bit_at_and a b i)
          ∙ and_test (bit_at a i) (bit_at b i) (bit_at-lt a i) (bit_at-lt b i)
          ∙ both_same _ _ _ _ (p.each x y z lx ly lz) (q.each x y z lx ly lz);
    }

-- the task of an octant
pub clip_octant : (base : List Tree) (level : ℕ) (above : Option Name) (ball : Ball)
    (within : Boxed)
    (at : Cell) (set : Bool) (cells : Cells) (k : ℕ) (old : Option Name) → 1 ≤ level → k < 8
    → (m : MakesClip above ball within at set base level cells)
    → old ≡ root_of (child_of m.paints.tree k)
    → MakesClip old ball within (octant_of (record { level = level; at = at }) k).at set base
    (level - 1) (octant_cells (level - 1) cells k)
clip_octant base level above ball within at set cells k old one lt m e =
    record {
      small = omega (arith, m.small);
      inside = octant_lies level at k one lt m.inside;
      paints = paints_octant base level above old set _ _ cells k one lt m.paints e
          (placed_octant (level - 1) at (is_in_clip ball within) k);
    }

-- the task of the whole world
pub clip_world : (side level : ℕ) (held : List Tree) (set : Bool) (ball : Ball) (within : Boxed)
    (o : Option Name) (before : Cell → Bool) → level ≤ 10 → AreTrees side held → AreCanonical held
    → ShowsWorld held level o before
    → MakesClip o ball within (cell_at 0 0 0) set held level
    (world_cells (clipped set ball within before))
clip_world side level held set ball within o before small a c w =
    record {
      small = small;
      inside = world_lies level small;
      paints = world_paints side level held o before _ set (is_in_clip ball within) _ a c w
          (λ p. refl) (from_nowhere level (is_in_clip ball within));
    }

-- ---- blocks known as a whole

left_false : (a b : Bool) → (a ≡ true → ⊥) → (a && b) ≡ false
left_false true b h = absurd (h refl)
left_false false b h = refl

right_false : (a b : Bool) → b ≡ false → (a && b) ≡ false
right_false true b e = e
right_false false b e = refl

both_true : (a b : Bool) → a ≡ true → b ≡ true → (a && b) ≡ true
both_true a b p q = rw (p, q) refl

-- the box has no cell of the block
pub clip_missed : (ball : Ball) (within : Boxed) (level : ℕ) (at : Cell)
    → (Meets within (record { level = level; at = at }) → ⊥)
    → SameIn level (cells_from at (is_in_clip ball within)) no_cells
clip_missed ball within level at missed =
    record {
      each = λ x y z p q r.
          let c : Cell = cell_at (at.x + x) (at.y + y) (at.z + z) in
          left_false (is_in_box within c) (is_in_ball ball c) (λ e. missed (record {
            cell = c;
            in_block = record {
              x = (omega arith, omega arith);
              y = (omega arith, omega arith);
              z = (omega arith, omega arith);
            };
            in_box = is_in_box_tells within c e;
          }));
    }

-- the ball has no cell of the block
pub clip_outside : (ball : Ball) (within : Boxed) (level : ℕ) (at : Cell)
    → SameIn level (cells_from at (is_in_ball ball)) no_cells
    → SameIn level (cells_from at (is_in_clip ball within)) no_cells
clip_outside ball within level at out =
    record { each = λ x y z p q r. right_false _ _ (out.each x y z p q r) }

-- the box and the ball have each cell of the block
pub clip_held : (ball : Ball) (within : Boxed) (level : ℕ) (at : Cell)
    → HoldsBlock within (record { level = level; at = at })
    → SameIn level (cells_from at (is_in_ball ball)) all_cells
    → SameIn level (cells_from at (is_in_clip ball within)) all_cells
clip_held ball within level at h inside =
    record {
      each = λ x y z p q r.
          let c : Cell = cell_at (at.x + x) (at.y + y) (at.z + z) in
          both_true (is_in_box within c) (is_in_ball ball c)
          (is_in_box_holds within c (h.each c (record {
            x = (omega arith, omega arith);
            y = (omega arith, omega arith);
            z = (omega arith, omega arith);
          })))
          (inside.each x y z p q r);
    }
