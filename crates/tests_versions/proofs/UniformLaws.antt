-- What an act that sets all cells of a world of side 4, or none, makes, and which tree shows it.
use Rattle.std.proofs.Common.{◌≡◌, ℕ, ◌&&◌, ◌||◌, ◌-◌, ◌^◌, Bool, true, false, not, Option, Some, None, List, refl, sym, ap, ◌∙◌, subst, arith}
use Rattle.vw_cell.specs.declared.cells.Cell.{Cell}
use Rattle.vw_cell.specs.Counts.{cell_at}
use Rattle.vw_cell.specs.Places.{IsInWorld, is_in_box}
use Rattle.vw_cell.specs.Tests.{is_in_box_holds}
use Rattle.vox_read.specs.Contents.{Content}
use Rattle.node_words.specs.declared.shapes.names.Name.{Name}
use Rattle.node_words.specs.shapes.Shape.{Shape, Leaf, ShowsCells, has}
use Rattle.node_words.specs.shapes.Tree.{root_of, shape_of}
use Rattle.node_words.proofs.OfShapes.ShapeLaws.{has-clear}
use Rattle.node_words.specs.contents.CellShapes.{Cells, all_cells, bits_below, shape_with}
use Rattle.node_words.proofs.OfContents.CellShapeLaws.{shape_with-has}
use Rattle.node_words.proofs.OfContents.FullShapes.{full_leaf, shape_with-full}
use Rattle.node_words.proofs.OfContents.SameCells.{same_itself}
use Rattle.history_model.specs.Logs.{FitsWorld}
use Rattle.history_model.specs.Making.{MayMake}
use Rattle.history_model.specs.Worlds.{World, is_edit}
use Rattle.core_laws.specs.contents.Aligned.{world_block}
use Rattle.tests_versions.specs.Uniform.{every_cell, first_act, first_cell, first_cells, leaf_tree, uniform_act, uniform_tree, uniform_cells}

pub uniform_edit : (root : Option Name) → is_edit (uniform_act root) ≡ true
uniform_edit None = refl
uniform_edit (Some n) = refl

pub leaf_root : (bits : ℕ) (root : Option Name) → root_of (leaf_tree bits root) ≡ root
leaf_root bits None = refl
leaf_root bits (Some n) = refl

in_every : (q : Cell) → IsInWorld 4 q → is_in_box every_cell q ≡ true
in_every q inside =
    is_in_box_holds every_cell q
    (record {
      x = (let a = inside.x in (omega arith, omega arith));
      y = (let a = inside.y in (omega arith, omega arith));
      z = (let a = inside.z in (omega arith, omega arith));
    })

and_false : (b : Bool) → b && false ≡ false
and_false true = refl
and_false false = refl

pub makes_uniform : (root : Option Name) (models : List Content) (before : World)
    → MayMake 4 models (uniform_act root) before (uniform_cells root)
makes_uniform None models before = record {
  each = λ q inside.
      sym (ap (λ b. before q && not b) (in_every q inside) ∙ and_false (before q));
}
makes_uniform (Some n) models before = record {
  each = λ q inside. sym (ap (λ b. b || before q) (in_every q inside));
}

-- the leaf of all cells
full_with : shape_with 0 all_cells ≡ Leaf (2 ^ 64 - 1)
full_with = shape_with-full 0 all_cells (same_itself 0 all_cells) ∙ full_leaf

pub shows_uniform : (root : Option Name)
    → ShowsCells (world_block 2) (shape_of (uniform_tree root)) (uniform_cells root)
unfolding shape_of
shows_uniform None = record {
  each = λ q inside. has-clear 0 (q.x - 0) (q.y - 0) (q.z - 0);
}
shows_uniform (Some n) = record {
  each = λ q inside.
      (let x = inside.x in let y = inside.y in let z = inside.z in
      subst (λ (s : Shape). has 0 s (q.x - 0) (q.y - 0) (q.z - 0) ≡ true) full_with
      ((shape_with-has 0 all_cells).each (q.x - 0) (q.y - 0) (q.z - 0) (omega arith) (omega arith)
      (omega arith)));
}

pub fits_uniform : (root : Option Name) (models : List Content)
    → FitsWorld 4 models (uniform_act root)
fits_uniform None models = record {
  x = (omega arith, omega arith);
  y = (omega arith, omega arith);
  z = (omega arith, omega arith);
}
fits_uniform (Some n) models = record {
  x = (omega arith, omega arith);
  y = (omega arith, omega arith);
  z = (omega arith, omega arith);
}

-- ---- the first cell alone

pub first_edit : (root : Option Name) → is_edit (first_act root) ≡ true
first_edit None = refl
first_edit (Some n) = refl

or_false : (b : Bool) → b || false ≡ b
or_false true = refl
or_false false = refl

-- of a world of no set cell
pub makes_first : (root : Option Name) (models : List Content) (before : World)
    → ((q : Cell) → IsInWorld 4 q → before q ≡ false)
    → MayMake 4 models (first_act root) before (first_cells root)
makes_first None models before none = record {
  each = λ q inside. sym (ap (λ b. b && not (is_in_box every_cell q)) (none q inside));
}
makes_first (Some n) models before none = record {
  each = λ q inside. sym (ap (λ b. is_in_box first_cell q || b) (none q inside)
      ∙ or_false (is_in_box first_cell q));
}

abbrev first : Cells
first = λ x y z. is_in_box first_cell (cell_at x y z)

first_with : shape_with 0 first ≡ Leaf 1
unfolding shape_with bits_below
first_with = refl

from_origin : (q : Cell) → first (q.x - 0) (q.y - 0) (q.z - 0) ≡ is_in_box first_cell q
from_origin q =
    let x : q.x - 0 ≡ q.x = omega arith in
    let y : q.y - 0 ≡ q.y = omega arith in
    let z : q.z - 0 ≡ q.z = omega arith in
    ap (λ (n : ℕ). first n (q.y - 0) (q.z - 0)) x ∙ ap (λ (n : ℕ). first q.x n (q.z - 0)) y
    ∙ ap (λ (n : ℕ). first q.x q.y n) z

pub shows_first : (root : Option Name)
    → ShowsCells (world_block 2) (shape_of (leaf_tree 1 root)) (first_cells root)
unfolding shape_of
shows_first None = record {
  each = λ q inside. has-clear 0 (q.x - 0) (q.y - 0) (q.z - 0);
}
shows_first (Some n) = record {
  each = λ q inside.
      (let x = inside.x in let y = inside.y in let z = inside.z in
      subst (λ (s : Shape). has 0 s (q.x - 0) (q.y - 0) (q.z - 0)
      ≡ first (q.x - 0) (q.y - 0) (q.z - 0)) first_with
      ((shape_with-has 0 first).each (q.x - 0) (q.y - 0) (q.z - 0) (omega arith) (omega arith)
      (omega arith))
      ∙ from_origin q);
}

pub fits_first : (root : Option Name) (models : List Content) → FitsWorld 4 models (first_act root)
fits_first None models = record {
  x = (omega arith, omega arith);
  y = (omega arith, omega arith);
  z = (omega arith, omega arith);
}
fits_first (Some n) models = record {
  x = (omega arith, omega arith);
  y = (omega arith, omega arith);
  z = (omega arith, omega arith);
}
