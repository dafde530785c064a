-- What one more record adds to the cells of a store, and what more records leave as they are.
use Rattle.std.specs.Prelude.{◌≡◌, ℕ, ◌+◌, ◌≤◌, true, false, List, [], ◌∷◌, ◌++◌, length}
use Rattle.std.proofs.Common.{ap}
use Rattle.vw_cell.specs.declared.cells.Cell.{Cell}
use Rattle.vox_read.specs.Contents.{Content}
use Rattle.history_model.specs.declared.histories.Record.{Record}
use Rattle.history_model.specs.Worlds.{World, nothing, is_edit}
use Rattle.history_model.specs.Positions.{position_after}
use Rattle.history_model.specs.FoldLaws.{state_stays, state_of_edit, state_of_other, state_at_0}
use Rattle.history_model.specs.PositionLaws.{newest_state_is_now}
use Rattle.history_model.specs.Stores.{edited_in, stored_in}

-- more records change no version
pub stored_stays : (side : ℕ) (models : List Content) (records more : List Record) (v : ℕ)
    (p : Cell) → v ≤ length records
    → stored_in side models (records ++ more) v p ≡ stored_in side models records v p
stored_stays side models records more v p le =
    ap (λ (w : World). w p) (state_stays nothing (edited_in side models) records more v le)

-- an edit's version, cell by cell
pub stored_of_edit : (side : ℕ) (models : List Content) (records : List Record) (r : Record)
    (p : Cell) → is_edit r.act ≡ true
    → stored_in side models (records ++ r ∷ []) (length records + 1) p
    ≡ edited_in side models r.act (stored_in side models records (length records)) p
stored_of_edit side models records r p edit =
    ap (λ (w : World). w p) (state_of_edit nothing (edited_in side models) records r edit)

-- an undo's or a redo's version has the cells of the one gone to
pub stored_of_other : (side : ℕ) (models : List Content) (records : List Record) (r : Record)
    (p : Cell) → is_edit r.act ≡ false
    → stored_in side models (records ++ r ∷ []) (length records + 1) p
    ≡ stored_in side models records (position_after (records ++ r ∷ [])).now p
stored_of_other side models records r p other =
    ap (λ (w : World). w p) (state_of_other nothing (edited_in side models) records r other)

-- no cell is set before any record
pub stored_at_0 : (side : ℕ) (models : List Content) (records : List Record) (p : Cell)
    → stored_in side models records 0 p ≡ false
stored_at_0 side models records p =
    ap (λ (w : World). w p) (state_at_0 nothing (edited_in side models) records)

-- the last version has the cells of the position's `now`
pub newest_stored_is_now : (side : ℕ) (models : List Content) (records : List Record) (p : Cell)
    → stored_in side models records (length records) p
    ≡ stored_in side models records (position_after records).now p
newest_stored_is_now side models records p =
    ap (λ (w : World). w p) (newest_state_is_now nothing (edited_in side models) records)
