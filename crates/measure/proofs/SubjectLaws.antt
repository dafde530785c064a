-- What counts in a block, of nothing, of a leaf and of an octant.
use Rattle.std.proofs.Common.{◌≡◌, ℕ, ◌-◌, ◌<◌, ◌≤◌, None, Option, List, Bool, refl, sym, ap, subst, ◌∙◌, arith}
use Rattle.vw_cell.specs.declared.cells.Cell.{Cell}
use Rattle.vw_cell.specs.Places.{block_side, IsInWorld}
use Rattle.vw_cell.specs.declared.boxes.Boxed.{Boxed}
use Rattle.vw_cell.specs.Counts.{cell_at, number_in}
use Rattle.node_words.specs.declared.shapes.names.Name.{Name}
use Rattle.node_words.specs.shapes.Shape.{Shape, bits_of, octant_shape}
use Rattle.node_words.specs.shapes.Tree.{Tree, shape_of, child_of}
use Rattle.node_words.proofs.OfShapes.ShapeLaws.{has-clear}
use Rattle.node_words.proofs.OfShapes.TreeLaws.{shape_of-child}
use Rattle.node_words.specs.Held.{bits_of_leaf}
use Rattle.node_words.specs.descent.Roots.{IsBlockOf, IsOctantOf, HasBlock, ForBlock, HoldsRoot, ForWorld, cells_of}
use Rattle.node_words.specs.descent.Parts.{placed}
use Rattle.node_words.proofs.OfDescent.BlockLaws.{clear_block, root_block}
use Rattle.node_words.proofs.OfDescent.PartLaws.{placed_in}
use Rattle.node_words.proofs.OfDescent.LookLaws.{leaf_tells, placed_set}
use Rattle.measure.specs.Leaves.{BitsPassTest}
use Rattle.measure.specs.Tallies.{in_octant, LeavesPassTest, PassesNone}
use Rattle.measure.specs.Subjects.{PassesSet}

pub nothing_set : (held : List Tree) (level : ℕ) (block : Option Name) (test : Cell → Bool)
    → block ≡ None → PassesSet held level block test → PassesNone level test
nothing_set held level block test e p = record {
  each = λ c i. p.shows c i
      ∙ ap (λ (s : Shape). cells_of level s c)
      (clear_block held level p.tree
      (subst (λ (n : Option Name). IsBlockOf held level n p.tree) e p.is_block))
      ∙ has-clear level c.x c.y c.z;
}

pub leaf_set : (held : List Tree) (block : Option Name) (bits : ℕ) (test : Cell → Bool)
    → ForBlock held 0 block (λ s. bits ≡ bits_of s) → PassesSet held 0 block test
    → BitsPassTest bits test
leaf_set held block bits test told p = record {
  each = λ x y z lx ly lz. leaf_tells (shape_of p.tree) bits (cell_at x y z)
      (told p.tree p.is_block) ∙ sym (p.shows (cell_at x y z) (record { x = lx; y = ly; z = lz }));
}

-- a place of an octant lies in the block
pub octant_set : (held : List Tree) (level k : ℕ) (block child : Option Name) (test : Cell → Bool)
    → 1 ≤ level → k < 8 → IsOctantOf held level block k child → PassesSet held level block test
    → PassesSet held (level - 1) child (in_octant level k test)
octant_set held level k block child test h lt octant p = record {
  tree = child_of p.tree k;
  is_block = octant p.tree p.is_block;
  shows = λ c i. p.shows (placed (block_side (level - 1)) k c) (placed_in level k c h lt i)
      ∙ placed_set level (shape_of p.tree) k c h lt i
      ∙ ap (λ (s : Shape). cells_of (level - 1) s c) (sym (shape_of-child p.tree k));
}

-- so of all leaves below a block at once
pub leaves_set : (held : List Tree) (block : Option Name) (leaves : List ℕ) (test : Cell → Bool)
    → ForBlock held 1 block
    (λ s. (k : ℕ) → k < 8 → bits_of_leaf leaves k ≡ bits_of (octant_shape s k))
    → PassesSet held 1 block test → LeavesPassTest 8 leaves test
leaves_set held block leaves test told p = record {
  each = λ k lt. record {
    each = λ x y z lx ly lz.
        (let c = cell_at x y z in
        let inside : IsInWorld (block_side 0) c = record { x = lx; y = ly; z = lz } in
        leaf_tells (octant_shape (shape_of p.tree) k) (bits_of_leaf leaves k) c
        (told p.tree p.is_block k lt)
        ∙ sym (placed_set 1 (shape_of p.tree) k c (omega arith) lt inside)
        ∙ sym (p.shows (placed (block_side 0) k c) (placed_in 1 k c (omega arith) lt inside)));
  };
}

-- what is set in a block
pub block_set : (held : List Tree) (level : ℕ) (block : Option Name) (t : Tree)
    → IsBlockOf held level block t → PassesSet held level block (cells_of level (shape_of t))
block_set held level block t b = record { tree = t; is_block = b; shows = λ c _. refl }

-- a root that is held has set cells, or the empty world's none
pub root_set : (held : List Tree) (side level : ℕ) (root name : Option Name) → level ≡ side - 2
    → name ≡ root → HoldsRoot held side root → (test : Cell → Bool) × PassesSet held level name test
root_set held side level root name e n h =
    let block = root_block held side root h in
    let there =
    subst (λ (m : Option Name). IsBlockOf held level m block.tree) (sym n)
    (subst (λ (l : ℕ). IsBlockOf held l root block.tree) (sym e) block.is_block) in
    (cells_of level (shape_of block.tree), block_set held level name block.tree there)

-- the number of the set cells of the root's block is that of its world's
pub set_in_root : (held : List Tree) (side level : ℕ) (root name : Option Name) (b : Boxed)
    (number : ℕ) → level ≡ side - 2 → name ≡ root
    → ((test : Cell → Bool) → PassesSet held level name test → number ≡ number_in b test)
    → ForWorld held side root (λ cells. number ≡ number_in b cells)
set_in_root held side level root name b number e n told t o =
    let there =
    subst (λ (m : Option Name). IsBlockOf held level m t) (sym n)
    (subst (λ (l : ℕ). IsBlockOf held l root t) (sym e) o) in
    told (cells_of level (shape_of t)) (block_set held level name t there)
    ∙ ap (λ (l : ℕ). number_in b (cells_of l (shape_of t))) e

-- what may be read has set cells, or none
pub some_set : (held : List Tree) (level : ℕ) (block : Option Name) → HasBlock held level block
    → (test : Cell → Bool) × PassesSet held level block test
some_set held level block h =
    (cells_of level (shape_of h.tree), block_set held level block h.tree h.is_block)
