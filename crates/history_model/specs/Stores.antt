-- The cells of a store at each version of a history. A store that plain acts change has the cells
-- of the world; one that tinted acts change keeps, at four times the side, the tints of the world.
use Rattle.std.specs.Prelude.{ℕ, ◌/◌, ◌^◌, Bool, List}
use Rattle.vw_cell.specs.declared.cells.Cell.{Cell}
use Rattle.vox_read.specs.Contents.{Content}
use Rattle.history_model.specs.declared.acts.Act.{Act}
use Rattle.history_model.specs.declared.acts.Act.TheVariants.{Tint}
use Rattle.history_model.specs.declared.histories.Record.{Record}
use Rattle.history_model.specs.Worlds.{World, nothing, edited}
use Rattle.history_model.specs.Folds.{state_of}
use Rattle.history_model.specs.Parts.{part, part_number, after_parts, made_in}
use Rattle.history_model.specs.Tints.{ink_of}
use Rattle.history_model.specs.Logs.{Log}

-- what an edit makes of the cells of a store of this side
abbrev pub edited_in : ℕ → List Content → Act → World → World
edited_in side models (Tint t) = made_in (side / 4) models t
edited_in side models act = edited models act

-- the parts of an edit of a store of this side, and how many there are: a tinted act is made by
-- parts, and any other at once
abbrev pub edit_parts : ℕ → List Content → Act → ℕ → World → World
edit_parts side models (Tint t) = part (side / 4) (ink_of models t) t
edit_parts side models act = λ k. edited models act

abbrev pub edit_part_number : Act → ℕ
edit_part_number (Tint t) = part_number t
edit_part_number act = 1

-- what the first parts of an edit make of the cells of a store of this side
abbrev pub made_by_parts : ℕ → List Content → Act → ℕ → World → World
made_by_parts side models act number = after_parts (edit_parts side models act) number

-- the cell of a store of this side is set at version n of these records
abbrev pub stored_in : ℕ → List Content → List Record → ℕ → Cell → Bool
stored_in side models records n p = state_of nothing (edited_in side models) records n p

-- the cell of the store is set at version n
abbrev pub store_has : List Content → Log → ℕ → Cell → Bool
store_has models log n p = stored_in (2 ^ log.side) models log.records n p
