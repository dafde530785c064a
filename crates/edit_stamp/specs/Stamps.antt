-- What a stamp makes of one block.
use Rattle.std.specs.Prelude.{ℕ, ◌≤◌, ◌&&◌, ◌||◌, not, Bool, List, if◌then◌else◌}
use Rattle.vw_cell.specs.declared.cells.Cell.{Cell}
use Rattle.vw_cell.specs.Places.{is_in_box, LiesIn}
use Rattle.node_words.specs.shapes.Tree.{Tree}
use Rattle.history_model.specs.Worlds.{box_at, less}
use Rattle.node_words.proofs.HeldLaws.{Keeps}
use Rattle.node_words.specs.contents.CellShapes.{Cells}
use Rattle.edit_walk.specs.cells.Paints.{Paints, paints_last}
use Rattle.edit_walk.specs.cells.Tasks.{OneEach}
use Rattle.edit_walk.specs.cells.Worlds.{cells_from}
use Rattle.node_words.specs.declared.shapes.names.Name.{Name}
use Rattle.std.specs.Prelude.{Option}
use Rattle.edit_stamp.specs.Drawings.{Drawn, drawn_cells}

-- the cell is one of the drawn model's, with its least corner at this place
abbrev pub is_stamped : Drawn → Cell → Cell → Bool
is_stamped drawn place p = is_in_box (box_at place drawn.size) p && drawn_cells drawn (less p place)

-- over these trees the block at this place of the world has the model's cells set or cleared
pub record MakesStamp (old : Option Name) (drawn : Drawn) (place at : Cell) (set : Bool)
    (base : List Tree) (level : ℕ) (cells : Cells) : Type 0 where
  pub small : level ≤ 10
  pub inside : LiesIn 4096 (record { level = level; at = at })
  pub stands : (place.x ≤ 4096) × (place.y ≤ 4096) × (place.z ≤ 4096)
  pub paints : Paints base level old set (cells_from at (is_stamped drawn place)) cells

pub stamp_lasts : (old : Option Name) (drawn : Drawn) (place at : Cell) (set : Bool)
    (base more : List Tree) (level : ℕ) (cells : Cells) → OneEach more → Keeps base more
    → MakesStamp old drawn place at set base level cells
    → MakesStamp old drawn place at set more level cells
stamp_lasts old drawn place at set base more level cells one k m = record {
  small = m.small;
  inside = m.inside;
  stands = m.stands;
  paints = paints_last base more level old set (cells_from at (is_stamped drawn place)) cells one k
      m.paints;
}

-- the world with the cells of the drawn model, whose least corner is at this place
abbrev pub stamped : Drawn → Cell → (Cell → Bool) → Cell → Bool
stamped drawn place before p = is_stamped drawn place p || before p

-- the world without these cells
abbrev pub unstamped : Drawn → Cell → (Cell → Bool) → Cell → Bool
unstamped drawn place before p = before p && not (is_stamped drawn place p)

-- the world with these cells set or cleared
abbrev pub inked : Bool → Drawn → Cell → (Cell → Bool) → Cell → Bool
inked set drawn place before p = if is_stamped drawn place p then set else before p
