-- What an act makes of the blocks of a store of tints, where a task says what it makes of the block
-- of each plane.
use Rattle.std.specs.Prelude.{ℕ, ◌-◌, ◌^◌, ◌≤◌, ◌<◌, Bool, false, List, Option, if◌then◌else◌}
use Rattle.std.proofs.Common.{zero, suc}
use Rattle.vw_cell.specs.declared.cells.Cell.{Cell}
use Rattle.vw_cell.specs.Counts.{cell_at}
use Rattle.node_words.specs.declared.shapes.names.Name.{Name}
use Rattle.node_words.specs.shapes.Shape.{has}
use Rattle.node_words.specs.shapes.Tree.{Tree, root_of, child_of, shape_of}
use Rattle.node_words.specs.contents.CellShapes.{Cells, SameIn, no_cells, octant_cells}
use Rattle.node_words.proofs.HeldLaws.{Keeps}
use Rattle.edit_walk.specs.cells.Tasks.{Making, Lasts, OneEach}
use Rattle.edit_walk.specs.cells.Paints.{IsOld, Paints, old_lasts, paints_last}
use Rattle.history_model.specs.Worlds.{World}
use Rattle.history_model.specs.Tints.{Tints}
use Rattle.history_model.specs.Planes.{tells, plane_at}
use Rattle.history_model.specs.Parts.{in_cube, after_parts}
use Rattle.colour.specs.declared.walks.TintTask.{TintTask}
use Rattle.colour.specs.declared.walks.TintTask.TheVariants.{Root, Cells as First, Bits, Kept, Plane}

-- the block stays as it was
pub record LeavesBlock (old : Option Name) (base : List Tree) (level : ℕ) (cells : Cells)
    : Type 0 where
  pub small : level ≤ 10
  pub paints : Paints base level old false no_cells cells

-- what is made of each octant, by its number and its old name
abbrev pub Octants : Type 1
Octants = ℕ → Option Name → Making

-- of each octant of the old block that is made
pub record MakesRow (octants : Octants) (old : Option Name) (base : List Tree) (level : ℕ)
    (cells : Cells) : Type 0 where
  pub small : level ≤ 10
  pub above : 1 ≤ level
  pub tree : Tree
  pub is_old : IsOld base level tree old
  pub each : (k : ℕ) → k < 8
      → octants k (root_of (child_of tree k)) base (level - 1) (octant_cells (level - 1) cells k)

-- octant 0 of the root has plane 0 as its octant 0
abbrev pub first_octants : {P T : Type 0} → (P → ℕ → Option Name → T) → (T → Making) → P → Octants
first_octants task_of makes planes zero old = makes (task_of planes 0 old)
first_octants task_of makes planes (suc k) old = LeavesBlock old

-- octant 1 has the planes of the bits
abbrev pub bit_octants : {P T : Type 0} → (P → ℕ → Option Name → T) → (T → Making) → P → Octants
bit_octants task_of makes planes k old = makes (task_of planes (suc k) old)

-- and nothing stands in the others
abbrev pub root_octants : {P T : Type 0} → (P → ℕ → Option Name → T) → (T → Making) → P → Octants
root_octants task_of makes planes zero old = MakesRow (first_octants task_of makes planes) old
root_octants task_of makes planes (suc zero) old = MakesRow (bit_octants task_of makes planes) old
root_octants task_of makes planes (suc (suc k)) old = LeavesBlock old

-- what each task makes
abbrev pub makes_tint : {P T : Type 0} → (P → ℕ → Option Name → T) → (T → Making)
    → TintTask P T → Making
makes_tint task_of makes (Root old planes) = MakesRow (root_octants task_of makes planes) old
makes_tint task_of makes (First old planes) = MakesRow (first_octants task_of makes planes) old
makes_tint task_of makes (Bits old planes) = MakesRow (bit_octants task_of makes planes) old
makes_tint task_of makes (Kept old) = LeavesBlock old
makes_tint task_of makes (Plane task) = makes task

-- the old block that each task tells
abbrev pub tint_was : {P T : Type 0} → (T → Option Name) → TintTask P T → Option Name
tint_was was (Root old planes) = old
tint_was was (First old planes) = old
tint_was was (Bits old planes) = old
tint_was was (Kept old) = old
tint_was was (Plane task) = was task

-- ---- it stays so while more is held

kept_lasts : (old : Option Name) (base more : List Tree) (level : ℕ) (cells : Cells)
    → OneEach more → Keeps base more → LeavesBlock old base level cells
    → LeavesBlock old more level cells
kept_lasts old base more level cells one k m = record {
  small = m.small;
  paints = paints_last base more level old false no_cells cells one k m.paints;
}

-- what is made of octants lasts
abbrev pub RowLasts : Octants → Type 0
RowLasts octants =
    (k : ℕ) (old : Option Name) (base more : List Tree) (level : ℕ) (cells : Cells)
    → OneEach more → Keeps base more → octants k old base level cells
    → octants k old more level cells

row_lasts : (octants : Octants) (old : Option Name) (base more : List Tree) (level : ℕ)
    (cells : Cells) → RowLasts octants → OneEach more → Keeps base more
    → MakesRow octants old base level cells → MakesRow octants old more level cells
row_lasts octants old base more level cells lasts one k m = record {
  small = m.small;
  above = m.above;
  tree = m.tree;
  is_old = old_lasts base more level m.tree old one k m.is_old;
  each = λ j lt.
      lasts j (root_of (child_of m.tree j)) base more (level - 1) (octant_cells (level - 1) cells j)
      one k (m.each j lt);
}

module _ {P T : Type 0} (task_of : P → ℕ → Option Name → T) (makes : T → Making)
    (lasts : Lasts makes) where
  first_lasts : (planes : P) → RowLasts (first_octants task_of makes planes)
  first_lasts planes zero old base more level cells one k m =
      lasts (task_of planes 0 old) base more level cells one k m
  first_lasts planes (suc j) old base more level cells one k m =
      kept_lasts old base more level cells one k m

  bit_lasts : (planes : P) → RowLasts (bit_octants task_of makes planes)
  bit_lasts planes j old base more level cells one k m =
      lasts (task_of planes (suc j) old) base more level cells one k m

  root_lasts : (planes : P) → RowLasts (root_octants task_of makes planes)
  root_lasts planes zero old base more level cells one k m =
      row_lasts (first_octants task_of makes planes) old base more level cells (first_lasts planes)
      one k m
  root_lasts planes (suc zero) old base more level cells one k m =
      row_lasts (bit_octants task_of makes planes) old base more level cells (bit_lasts planes)
      one k m
  root_lasts planes (suc (suc j)) old base more level cells one k m =
      kept_lasts old base more level cells one k m

  pub tint_lasts : Lasts (makes_tint task_of makes)
  tint_lasts (Root old planes) base more level cells one k m =
      row_lasts (root_octants task_of makes planes) old base more level cells (root_lasts planes)
      one k m
  tint_lasts (First old planes) base more level cells one k m =
      row_lasts (first_octants task_of makes planes) old base more level cells (first_lasts planes)
      one k m
  tint_lasts (Bits old planes) base more level cells one k m =
      row_lasts (bit_octants task_of makes planes) old base more level cells (bit_lasts planes)
      one k m
  tint_lasts (Kept old) base more level cells one k m =
      kept_lasts old base more level cells one k m
  tint_lasts (Plane task) base more level cells one k m =
      lasts task base more level cells one k m

-- ---- what becomes of the planes, cell by cell

-- what becomes of each cell of each plane, by what it was
abbrev pub CellEdit : Type 0
CellEdit = ℕ → Cell → Bool → Bool

-- an edit of one plane
abbrev pub in_cells : CellEdit → ℕ → World → World
in_cells edit k before p = edit k p (before p)

-- one plane after another
abbrev pub cell_parts : ℕ → CellEdit → ℕ → World → World
cell_parts n edit k = in_cube n (plane_at n k) (in_cells edit k)

-- all nine
abbrev pub all_planes : ℕ → CellEdit → World → World
all_planes side edit = after_parts (cell_parts (2 ^ (side - 2)) edit) 9

-- each plane's task makes this of an old block
pub record MakesPlanes {P T : Type 0} (task_of : P → ℕ → Option Name → T) (makes : T → Making)
    (planes : P) (held : List Tree) (level : ℕ) (edit : CellEdit) : Type 0 where
  pub each : (k : ℕ) (t : Tree) (old : Option Name) (cells : Cells) → k < 9 → IsOld held level t old
      → SameIn level cells (λ x y z. edit k (cell_at x y z) (has level (shape_of t) x y z))
      → makes (task_of planes k old) held level cells

-- the cells of a test get a tint: they are set in the planes where it tells
abbrev pub fill_edit : (Cell → Bool) → ℕ → CellEdit
fill_edit test tint k p v = if test p then tells k tint else v

-- a cell that has ink gets its tint: each plane shows what it tells, whatever it was before
abbrev pub ink_edit : Tints → CellEdit
ink_edit ink k p v = if tells 0 (ink p) then tells k (ink p) else v
