-- The block of the whole world, for an edit that sets or clears the cells of a test.
use Rattle.std.proofs.Common.{◌≡◌, ℕ, Bool, Option, List, sym, ◌∙◌}
use Rattle.std.specs.Prelude.{if◌then◌else◌}
use Rattle.vw_cell.specs.declared.cells.Cell.{Cell}
use Rattle.vw_cell.specs.Counts.{cell_at}
use Rattle.node_words.specs.declared.shapes.names.Name.{Name}
use Rattle.node_words.specs.shapes.Tree.{Tree}
use Rattle.node_words.specs.Held.{AreTrees, AreCanonical}
use Rattle.node_words.specs.contents.CellShapes.{Cells, SameIn}
use Rattle.edit_walk.specs.cells.Paints.{Paints}
use Rattle.edit_walk.specs.cells.Worlds.{world_cells, ShowsWorld}
use Rattle.edit_walk.proofs.OfCells.PaintLaws.{chosen}
use Rattle.edit_walk.proofs.OfCells.WorldLaws.{root_old, world_places}

pub world_paints : (side level : ℕ) (held : List Tree) (root : Option Name)
    (before after : Cell → Bool) (set : Bool) (inside : Cell → Bool) (test : Cells)
    → AreTrees side held → AreCanonical held → ShowsWorld held level root before
    → ((c : Cell) → after c ≡ (if inside c then set else before c))
    → SameIn level (world_cells inside) test → Paints held level root set test (world_cells after)
world_paints side level held root before after set inside test trees canonical w edits same =
    record {
      tree = w.tree;
      is_old = root_old side level held w.tree root trees canonical w.is_root;
      shows = record {
        each = λ x y z p q r. edits (cell_at x y z)
            ∙ chosen _ _ _ _ set (same.each x y z p q r)
            (sym ((world_places level _ before w.shows).each x y z p q r));
      };
    }
