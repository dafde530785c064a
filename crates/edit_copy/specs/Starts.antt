-- What the copy of a box in the world begins with.
use Rattle.std.specs.Prelude.{◌≡◌, ◌≢◌, ℕ, ◌+◌, ◌*◌, ◌^◌, ◌<◌, Option, None}
use Rattle.vw_cell.specs.declared.cells.Cell.{Cell}
use Rattle.vw_cell.specs.declared.boxes.Boxed.{Boxed}
use Rattle.node_words.specs.declared.shapes.names.Name.{Name}
use Rattle.node_words.specs.Held.{name_in}
use Rattle.edit_copy.specs.declared.copies.CopyTask.{CopyTask}

-- the world is this half of two blocks, and the cell that goes to `to` comes from `from`
pub record IsShift (side from to half offset : ℕ) : Type 0 where
  pub half_in : half < 2
  pub below : offset < 2 ^ side
  pub moves : to + offset ≡ half * 2 ^ side + from

-- the task copies the box to its place, of a world of this side with this root
pub record IsWholeTask (side : ℕ) (old : Option Name) (from : Boxed) (to : Cell)
    (task : CopyTask) : Type 0 where
  pub x : ℕ
  pub y : ℕ
  pub z : ℕ
  pub old_is : task.old ≡ old
  pub at_is : task.part.at ≡ to
  pub size_is : task.part.size ≡ from.size
  pub shift_x : IsShift side from.at.x to.x x task.offset.x
  pub shift_y : IsShift side from.at.y to.y y task.offset.y
  pub shift_z : IsShift side from.at.z to.z z task.offset.z
  pub source : name_in task.sources (x + 2 * y + 4 * z) ≡ old
  pub others : (j : ℕ) → j ≢ x + 2 * y + 4 * z → name_in task.sources j ≡ None
