-- The root that was made is held, and the list of it and the empty world is one of versions.
use Rattle.std.proofs.Common.{Bool, ◌≡◌, ℕ, zero, suc, ◌-◌, ◌<◌, ◌≤◌, List, [], ◌∷◌, Some, None, Option, sym, ap, subst, arith}
use Rattle.std.specs.Prelude.{slice_get}
use Rattle.vw_cell.specs.declared.cells.Cell.{Cell}
use Rattle.node_words.specs.declared.shapes.names.Name.{Name}
use Rattle.node_words.specs.shapes.Tree.{Tree}
use Rattle.node_words.proofs.OfShapes.TreeLaws.{level_of}
use Rattle.node_words.proofs.OfShapes.WeightLaws.{weight_of-there}
use Rattle.node_words.specs.Held.{StoreState}
use Rattle.node_words.specs.descent.Roots.{HoldsRoot}
use Rattle.edit_walk.specs.cells.Worlds.{ForEdited, Rebuilt}
use Rattle.edit_walk.proofs.OfCells.WorldLaws.{root_shown}
use Rattle.dag_file.specs.Lists.{Listed, HoldsList, DoNumbersRise, AreNumbersSmall}

root_held : (old new : StoreState) (side : ℕ) (name : Option Name) (world : Cell → Bool)
    → Rebuilt (side - 2) world name old new → HoldsRoot new.held side name
root_held old new side None world b = tt
root_held old new side (Some n) world b = (
  record {
    tree = b.tree;
    is_held = record {
      weighs = λ f. omega
          (arith, b.weighs f, weight_of-there f b.tree n b.root);
    };
    root = b.root;
  },
  level_of (side - 2) b.tree n b.levels b.root,
)

pub made_held : (old new : StoreState) (side : ℕ) (root made name : Option Name)
    (edit : (Cell → Bool) → Cell → Bool) → root ≡ None → name ≡ made
    → ForEdited old side root edit (λ world. Rebuilt (side - 2) world made old new)
    → HoldsRoot new.held side name
made_held old new side root made name edit none is r =
    let (before, w) =
    root_shown old.held side root
    (subst (λ (o : Option Name). HoldsRoot old.held side o) (sym none) tt) in
    subst (λ (o : Option Name). HoldsRoot new.held side o) (sym is)
    (root_held old new side made _ (r before w))

abbrev item_or : Option Listed → Listed → Listed
item_or None d = d
item_or (Some y) d = y

one_item : (a b : Listed) → Some a ≡ Some b → a ≡ b
one_item a b e = ap (λ (o : Option Listed). item_or o a) e

abbrev pub two : Option Name → List Listed
two root = (0, None) ∷ ((1, root) ∷ [])

pub two_held : (held : List Tree) (side : ℕ) (root : Option Name) → 2 ≤ side
    → HoldsRoot held side root → HoldsList held (side - 1) (two root)
two_held held side root low h zero x e =
    subst (λ (y : Listed). HoldsRoot held (suc (side - 1)) y.1) (one_item (0, None) x e) tt
two_held held side root low h (suc zero) x e =
    subst (λ (y : Listed). HoldsRoot held (suc (side - 1)) y.1) (one_item (1, root) x e)
    (subst (λ (l : ℕ). HoldsRoot held l root)
    (let l : side ≡ suc (side - 1) = omega (arith, low) in l) h)
two_held held side root low h (suc (suc v)) x e = absurd cc

pub two_rise : (root : Option Name) → DoNumbersRise (two root)
two_rise root zero x y ex ey =
    let a = ap (λ (z : Listed). z.0) (one_item (0, None) x ex) in
    let b = ap (λ (z : Listed). z.0) (one_item (1, root) y ey) in
    omega (arith, a, b)
two_rise root (suc zero) x y ex ey = absurd cc
two_rise root (suc (suc v)) x y ex ey = absurd cc

pub two_small : (root : Option Name) → AreNumbersSmall (two root)
two_small root zero x e =
    let a = ap (λ (z : Listed). z.0) (one_item (0, None) x e) in omega (arith, a)
two_small root (suc zero) x e =
    let a = ap (λ (z : Listed). z.0) (one_item (1, root) x e) in omega (arith, a)
two_small root (suc (suc v)) x e = absurd cc
