-- A world of side 4, which is one leaf: all of its cells are set, or the first one alone, or none.
use Rattle.std.specs.Prelude.{◌-◌, ◌^◌, ℕ, true, false, Option, Some, None}
use Rattle.vw_cell.specs.Counts.{cell_at}
use Rattle.vw_cell.specs.declared.boxes.Boxed.{Boxed}
use Rattle.vw_cell.specs.Places.{is_in_box}
use Rattle.node_words.specs.shapes.Tree.{Tree, Gone, LeafAt}
use Rattle.node_words.specs.declared.shapes.names.Name.{Name}
use Rattle.history_model.specs.declared.acts.Act.{Act}
use Rattle.history_model.specs.declared.acts.Act.TheVariants.{Fill, Erase}
use Rattle.history_model.specs.Worlds.{World, box_at}

-- the box of all cells
abbrev pub every_cell : Boxed
every_cell = box_at (cell_at 0 0 0) (cell_at 4 4 4)

-- the act behind which the world has this root: none where no cell is set, else the full leaf
abbrev pub uniform_act : Option Name → Act
uniform_act None = Erase every_cell
uniform_act (Some n) = Fill every_cell

-- the tree of a leaf with these bits, where there is a root
abbrev pub leaf_tree : ℕ → Option Name → Tree
leaf_tree bits None = Gone
leaf_tree bits (Some n) = LeafAt n bits

abbrev pub uniform_tree : Option Name → Tree
uniform_tree root = leaf_tree (2 ^ 64 - 1) root

abbrev pub uniform_cells : Option Name → World
uniform_cells None q = false
uniform_cells (Some n) q = true

-- ---- the first cell alone, whose leaf has the bits 1

abbrev pub first_cell : Boxed
first_cell = box_at (cell_at 0 0 0) (cell_at 1 1 1)

-- the act behind which a world of no set cell has this root
abbrev pub first_act : Option Name → Act
first_act None = Erase every_cell
first_act (Some n) = Fill first_cell

abbrev pub first_cells : Option Name → World
first_cells None q = false
first_cells (Some n) q = is_in_box first_cell q
