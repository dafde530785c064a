-- What changes make of one cell, one after another.
use Rattle.std.specs.Prelude.{Bool, true, false, not, ◌&&◌, List, [], ◌∷◌}
use Rattle.std.specs.List.{fold}
use Rattle.vw_cell.specs.declared.cells.Cell.{Cell}
use Rattle.history_model.specs.Contents.{Content}
use Rattle.history_model.specs.declared.acts.Act.{Act}
use Rattle.history_model.specs.declared.acts.Act.TheVariants.{Copy, Tint, Undo, Redo}
use Rattle.history_model.specs.Worlds.{World, nothing, edited}
use Rattle.conformance.specs.Shown.{Accepted}

-- whether the cell is set behind a change, where it was so before it
abbrev pub set_behind : List Content → Cell → Bool → Act → Bool
set_behind models p before act = edited models act (λ q. before) p

-- and behind all these changes
abbrev pub set_by : List Content → Cell → Bool → List Accepted → Bool
set_by models p before [] = before
set_by models p before (c ∷ more) =
    set_by models p (set_behind models p before c.entry.act) more

-- what the change makes of a cell hangs on that cell alone; loads have no tinted change
abbrev pub is_local : Act → Bool
is_local (Copy b to) = false
is_local (Tint t) = false
is_local Undo = false
is_local Redo = false
is_local _ = true

-- the change leaves the cell as it was
abbrev pub leaves : List Content → Cell → Act → Bool
leaves models p act = not (set_behind models p false act) && set_behind models p true act

-- the world that these changes alone make of the empty one
abbrev pub made_alone : List Content → List Act → World
made_alone models acts = fold (λ before act. edited models act before) nothing acts
