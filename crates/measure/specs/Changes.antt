-- What differs between two worlds, cell by cell, and what of that a block of both tells.
use Rattle.std.specs.Prelude.{◌≡◌, ℕ, Bool, true, false, not, Option, List}
use Rattle.vw_cell.specs.declared.cells.Cell.{Cell}
use Rattle.vw_cell.specs.Places.{block_side, IsInWorld}
use Rattle.node_words.specs.declared.shapes.names.Name.{Name}
use Rattle.node_words.specs.shapes.Tree.{Tree, root_of, shape_of}
use Rattle.node_words.specs.Held.{IsReached}
use Rattle.node_words.specs.descent.Roots.{IsBlockOf, cells_of}
use Rattle.measure.specs.Tallies.{Counting}
use Rattle.measure.specs.declared.differences.Changed.{Changed}

-- one of the two holds and the other doesn't
abbrev pub is_other : Bool → Bool → Bool
is_other true b = not b
is_other false b = b

-- the cell is set in one of the two worlds alone
abbrev pub differs : (Cell → Bool) → (Cell → Bool) → Cell → Bool
differs before after c = is_other (before c) (after c)

-- a name that is held or stands below one has one tree
pub record AreNamed (held : List Tree) : Type 0 where
  pub one : (t u : Tree) → IsReached held t → IsReached held u → root_of t ≡ root_of u → t ≡ u

-- the test passes the cells that differ between what stands in a block before and after
pub record PassesChanged (held : List Tree) (level : ℕ) (before after : Option Name)
    (test : Cell → Bool) : Type 0 where
  pub named : AreNamed held
  pub old : Tree
  pub is_before : IsBlockOf held level before old
  pub new : Tree
  pub is_after : IsBlockOf held level after new
  pub shows : (c : Cell) → IsInWorld (block_side level) c
      → test c ≡ differs (cells_of level (shape_of old)) (cells_of level (shape_of new)) c

-- what counts where a block is looked at before and after
abbrev pub passes_changed : Counting Changed
passes_changed held level s test = PassesChanged held level s.before s.after test
