-- What an edit makes of a block.
use Rattle.std.specs.Prelude.{◌≡◌, ℕ, ◌+◌, ◌*◌, Some, List}
use Rattle.std.proofs.Common.{zero, suc}
use Rattle.node_words.specs.shapes.Tree.{Tree, root_of, shape_of}
use Rattle.node_words.specs.Gathering.{IsTreeOf}
use Rattle.node_words.specs.Held.{IsReached}
use Rattle.node_words.proofs.HeldLaws.{Keeps}
use Rattle.edit_walk.specs.declared.cells.tasks.Whole.{Whole}
use Rattle.edit_walk.specs.declared.cells.tasks.Whole.TheVariants.{Nothing, All, Old, Mixed}
use Rattle.node_words.specs.contents.CellShapes.{Cells, SameIn, no_cells, all_cells, shape_with}

-- what a task makes: while these trees stay held, of a block of this level these cells
abbrev pub Making : Type 1
Making = List Tree → ℕ → Cells → Type 0

-- some cells that it makes of a block of this level, and such by trees that are held
abbrev pub MakesSome : Making → ℕ → Type 0
MakesSome makes level = (base : List Tree) × (cells : Cells) × makes base level cells

abbrev pub MakesCells : Making → List Tree → ℕ → Type 0
MakesCells makes held level =
    (base : List Tree) × (cells : Cells) × Keeps base held × makes base level cells

-- P of all cells that it makes of a block of this level, and of the trees that it makes them by,
-- which are held
abbrev pub ForCells : Making → List Tree → ℕ → (List Tree → Cells → Type 0) → Type 0
ForCells makes held level P =
    (base : List Tree) (cells : Cells) → Keeps base held → makes base level cells → P base cells

-- whatever both make of a block has the same cells
abbrev pub MakeAlike : Making → Making → Type 0
MakeAlike p q =
    (base : List Tree) (level : ℕ) (a b : Cells) → p base level a → q base level b
    → SameIn level a b

-- no two trees of one name are reached
abbrev pub OneEach : List Tree → Type 0
OneEach held =
    (t u : Tree) → IsReached held t → IsReached held u → root_of t ≡ root_of u → t ≡ u

-- what tasks make by some trees, they make by more trees too
abbrev pub Lasts : {T : Type 0} → (T → Making) → Type 0
Lasts makes =
    (task : _) (base more : List Tree) (level : ℕ) (cells : Cells) → OneEach more
    → Keeps base more → makes task base level cells → makes task more level cells

-- what is known of a block with these cells as a whole
abbrev pub IsWhole : List Tree → ℕ → Cells → Whole → Type 0
IsWhole base level cells Nothing = SameIn level cells no_cells
IsWhole base level cells All = SameIn level cells all_cells
IsWhole base level cells (Old n) =
    (t : Tree) × IsTreeOf base level t (Some n) × (shape_of t ≡ shape_with level cells)
IsWhole base level cells Mixed = Unit {0}

-- how many blocks there are in a block of this level, itself among them
unfoldable pub blocks_in : ℕ → ℕ
blocks_in zero = 1
blocks_in (suc level) = 1 + 8 * blocks_in level
