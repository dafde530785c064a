-- What counts in a block: its set cells.
use Rattle.std.specs.Prelude.{◌≡◌, ℕ, Bool, Option, List}
use Rattle.vw_cell.specs.declared.cells.Cell.{Cell}
use Rattle.vw_cell.specs.Places.{block_side, IsInWorld}
use Rattle.node_words.specs.declared.shapes.names.Name.{Name}
use Rattle.node_words.specs.shapes.Tree.{Tree, shape_of}
use Rattle.node_words.specs.descent.Roots.{IsBlockOf, cells_of}

-- the test passes the set cells of what stands in a block
pub record PassesSet (held : List Tree) (level : ℕ) (block : Option Name)
    (test : Cell → Bool) : Type 0 where
  pub tree : Tree
  pub is_block : IsBlockOf held level block tree
  pub shows : (c : Cell) → IsInWorld (block_side level) c
      → test c ≡ cells_of level (shape_of tree) c
