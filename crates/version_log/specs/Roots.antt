-- Roots of versions, and shares of them.
use Rattle.std.specs.Prelude.{◌≡◌, ℕ, Option, Some, None, List}
use Rattle.history_model.specs.Worlds.{World}
use Rattle.node_words.specs.declared.shapes.names.Name.{Name}
use Rattle.node_words.specs.shapes.Shape.{ShowsCells}
use Rattle.node_words.specs.shapes.Tree.{Tree, root_of, shape_of}
use Rattle.node_words.specs.Gathering.{MayHold, Loses}
use Rattle.core_laws.specs.contents.Aligned.{top, world_block}
use Rattle.table_rule.specs.Views.{SeatView}

-- this is the root of these cells: it is held, where there is one, is of the top level, and shows
-- just them
pub record HoldsRootOf (v : SeatView) (root : Option Name) (cells : World) : Type 0 where
  pub tree : Tree
  pub name : root_of tree ≡ root
  pub held : MayHold v.held tree
  pub level : (n : Name) → root ≡ Some n → n.level ≡ top v.plan.side
  pub shows : ShowsCells (world_block v.plan.side) (shape_of tree) cells

-- one share of the root came, where there is one, and otherwise the same is held
pub record GetsRoot (old : List Tree) (root : Option Name) (new : List Tree) : Type 0 where
  pub tree : Tree
  pub name : root_of tree ≡ root
  pub loses : Loses new tree old

-- a root takes one turn of its bucket, and no root takes none
abbrev pub turns_for : Option Name → ℕ
turns_for None = 0
turns_for (Some n) = 1
