-- Sides of set cells that no set cell stands at.
use Rattle.std.specs.Prelude.{ℕ, ◌+◌, ◌-◌, ◌&&◌, not, nat_lt, Bool}
use Rattle.vw_cell.specs.declared.cells.Cell.{Cell}
use Rattle.vw_cell.specs.declared.boxes.Boxed.{Boxed}
use Rattle.vw_cell.specs.Counts.{cell_at, number_in}
use Rattle.vw_cell.specs.declared.directions.Direction.{Direction}
use Rattle.vw_cell.specs.declared.directions.Direction.TheVariants.{LowX, HighX, LowY, HighY, LowZ, HighZ}

-- the place next to a cell is one of a world of this side, and set
abbrev pub has_next : Direction → ℕ → (Cell → Bool) → Cell → Bool
has_next LowX side cells c = nat_lt 0 c.x && cells (cell_at (c.x - 1) c.y c.z)
has_next HighX side cells c = nat_lt (c.x + 1) side && cells (cell_at (c.x + 1) c.y c.z)
has_next LowY side cells c = nat_lt 0 c.y && cells (cell_at c.x (c.y - 1) c.z)
has_next HighY side cells c = nat_lt (c.y + 1) side && cells (cell_at c.x (c.y + 1) c.z)
has_next LowZ side cells c = nat_lt 0 c.z && cells (cell_at c.x c.y (c.z - 1))
has_next HighZ side cells c = nat_lt (c.z + 1) side && cells (cell_at c.x c.y (c.z + 1))

-- the cell is set, and the place next to it is unset or outside of the world
abbrev pub is_exposed : Direction → ℕ → (Cell → Bool) → Cell → Bool
is_exposed direction side cells c = cells c && not (has_next direction side cells c)

-- the number of pairs of a set cell of a box and a side of it at which the cell is exposed
abbrev pub faces_in : ℕ → (Cell → Bool) → Boxed → ℕ
faces_in side cells b =
    number_in b (is_exposed LowX side cells) + number_in b
    (is_exposed HighX side cells) + number_in b
    (is_exposed LowY side cells)
    + number_in b (is_exposed HighY side cells) + number_in b
    (is_exposed LowZ side cells) + number_in b
    (is_exposed HighZ side cells)
