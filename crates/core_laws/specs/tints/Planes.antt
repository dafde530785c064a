-- The number that a store of side 4 n has in the eight places of a cell of a world of side n, and
-- models whose colours are such numbers.
use Rattle.std.specs.Prelude.{ℕ, ◌<◌, ◌^◌}
use Rattle.std.proofs.Common.{suc}
use Rattle.vw_cell.specs.declared.cells.Cell.{Cell}
use Rattle.vw_cell.specs.Counts.{IsBelow}
use Rattle.vox_read.specs.Contents.{Content, colour_at}
use Rattle.node_words.specs.contents.CellShapes.{bits_below}
use Rattle.history_model.specs.Worlds.{World, plus}
use Rattle.history_model.specs.Planes.{plane_at}

-- bit b is 1 where the cell of the plane of bit b is set
abbrev pub tint_in : ℕ → World → Cell → ℕ
tint_in n world p = bits_below (λ b. world (plus (plane_at n (suc b)) p)) 8

-- each place of the model has a tint
abbrev pub TintsPlaces : Content → Type 0
TintsPlaces m = (q : Cell) → IsBelow m.size q → colour_at m.voxels q < 2 ^ 8
