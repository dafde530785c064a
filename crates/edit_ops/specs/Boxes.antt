-- What an edit of a box makes of one block, and how many of its blocks are mixed.
use Rattle.std.specs.Prelude.{ℕ, ◌+◌, ◌≤◌, Bool, List, true, false, nat_le, nat_lt, ◌&&◌, not}
use Rattle.std.proofs.Common.{zero, suc}
use Rattle.vw_cell.specs.declared.boxes.Boxed.{Boxed}
use Rattle.node_words.specs.Sums.{one_if, sum_below}
use Rattle.vw_cell.specs.Places.{block_side, is_in_box}
use Rattle.node_words.specs.shapes.Tree.{Tree}
use Rattle.history_model.specs.declared.acts.Act.{Act}
use Rattle.history_model.specs.declared.acts.Act.TheVariants.{Fill, Erase}
use Rattle.node_words.specs.descent.Parts.{part_in}
use Rattle.node_words.specs.contents.CellShapes.{Cells}
use Rattle.edit_walk.specs.cells.Paints.{Paints, paints_last}
use Rattle.edit_walk.specs.cells.Tasks.{Lasts}
use Rattle.edit_walk.specs.cells.Worlds.{world_cells}
use Rattle.edit_ops.specs.declared.boxes.BoxTask.{BoxTask}

-- the act that sets or clears the cells of a box
abbrev pub box_act : Bool → Boxed → Act
box_act true b = Fill b
box_act false b = Erase b

-- over these trees the task makes a block of this level with these cells
pub record MakesBox (task : BoxTask) (base : List Tree) (level : ℕ) (cells : Cells) : Type 0 where
  pub small : level ≤ 10
  pub paints : Paints base level task.old task.set (world_cells (is_in_box task.part)) cells

pub box_lasts : Lasts MakesBox
box_lasts task base more level cells one k m = record {
  small = m.small;
  paints = paints_last base more level task.old task.set (world_cells (is_in_box task.part)) cells
      one k m.paints;
}

-- the box has a cell of the block of this level at the origin, and doesn't hold the block
abbrev pub touches_first : ℕ → ℕ → ℕ → Bool
touches_first low size side = nat_le 1 size && nat_lt low side

abbrev pub covers_first : ℕ → ℕ → ℕ → Bool
covers_first low size side = nat_le low 0 && nat_le side (low + size)

abbrev pub is_partly : ℕ → Boxed → Bool
is_partly level b =
    let side = block_side level in
    touches_first b.at.x b.size.x side && touches_first b.at.y b.size.y side
    && touches_first b.at.z b.size.z side
    && not
    (covers_first b.at.x b.size.x side && covers_first b.at.y b.size.y side
    && covers_first b.at.z b.size.z side)

-- how many blocks of a block of this level the box meets without holding them, told by its parts
unfoldable pub parts_met : ℕ → Boxed → ℕ
parts_met zero b = one_if (is_partly 0 b)
parts_met (suc level) b =
    one_if (is_partly (suc level) b) + sum_below 8
    (λ k. parts_met level (part_in (block_side level) b k))
