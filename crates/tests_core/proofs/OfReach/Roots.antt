-- The root that was made is held.
use Rattle.std.proofs.Common.{Bool, ◌≡◌, ℕ, ◌-◌, Some, None, Option, sym, subst, arith}
use Rattle.vw_cell.specs.declared.cells.Cell.{Cell}
use Rattle.node_words.specs.declared.shapes.names.Name.{Name}
use Rattle.node_words.proofs.OfShapes.TreeLaws.{level_of}
use Rattle.node_words.proofs.OfShapes.WeightLaws.{weight_of-there}
use Rattle.node_words.specs.Held.{StoreState}
use Rattle.node_words.specs.descent.Roots.{HoldsRoot}
use Rattle.edit_walk.specs.cells.Worlds.{ForEdited, Rebuilt}
use Rattle.edit_walk.proofs.OfCells.WorldLaws.{root_shown}

root_held : (old new : StoreState) (side : ℕ) (name : Option Name) (world : Cell → Bool)
    → Rebuilt (side - 2) world name old new → HoldsRoot new.held side name
root_held old new side None world b = tt
root_held old new side (Some n) world b = (
  record {
    tree = b.tree;
    is_held = record {
      weighs = λ f. omega
          (arith, b.weighs f, weight_of-there f b.tree n b.root);
    };
    root = b.root;
  },
  level_of (side - 2) b.tree n b.levels b.root,
)

pub made_held : (old new : StoreState) (side : ℕ) (root made name : Option Name)
    (edit : (Cell → Bool) → Cell → Bool) → root ≡ None → name ≡ made
    → ForEdited old side root edit (λ world. Rebuilt (side - 2) world made old new)
    → HoldsRoot new.held side name
made_held old new side root made name edit none is r =
    let (before, w) =
    root_shown old.held side root
    (subst (λ (o : Option Name). HoldsRoot old.held side o) (sym none) tt) in
    subst (λ (o : Option Name). HoldsRoot new.held side o) (sym is)
    (root_held old new side made _ (r before w))
