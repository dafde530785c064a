-- The leaves of one layer of a box in the planes of the bits.
use Rattle.std.specs.Prelude.{◌≡◌, ℕ, ◌-◌, ◌<◌, ◌⊎◌, Bool, List, [], Option, slice_index_or}
use Rattle.vw_cell.specs.declared.cells.Cell.{Cell}
use Rattle.vw_cell.specs.declared.boxes.Boxed.{Boxed}
use Rattle.node_words.specs.declared.shapes.names.Name.{Name}
use Rattle.node_words.specs.shapes.Tree.{Tree, child_of, shape_of}
use Rattle.node_words.specs.descent.Roots.{IsBlockOf, cells_of}
use Rattle.extract.specs.Layers.{HoldsLayer, leaves_in}

-- the cells of the plane of a bit, in the root's tree
abbrev pub bit_cells : ℕ → Tree → ℕ → Cell → Bool
bit_cells side t bit = cells_of (side - 2 - 2) (shape_of (child_of (child_of t 1) bit))

-- P of the root's tree
abbrev pub ForRoot : List Tree → ℕ → Option Name → (Tree → Type 0) → Type 0
ForRoot held side root P = (t : Tree) → IsBlockOf held (side - 2) root t → P t

-- the rows of the first n bits show the leaves of a layer of a box
pub record HoldsBits (rows : List (List ℕ)) (b : Boxed) (layer side : ℕ) (t : Tree) (n : ℕ)
    : Type 0 where
  pub each : (bit : ℕ) → bit < n
      → HoldsLayer (slice_index_or rows bit []) b layer (leaves_in b) (bit_cells side t bit)

-- a layer that no box has
abbrev pub no_layer : ℕ
no_layer = 65535

-- the rows show this layer, unless nothing was read yet
abbrev pub IsRead : ℕ → List (List ℕ) → Boxed → ℕ → Tree → Type 0
IsRead layer rows b side t = (layer ≡ no_layer) ⊎ HoldsBits rows b layer side t 8
