-- Which cells the next record may make.
use Rattle.std.specs.Prelude.{◌≡◌, ℕ, ◌+◌, true, false, List, length}
use Rattle.core_laws.specs.HistoryModelContents.{Content}
use Rattle.core_laws.specs.Act.{Act}
use Rattle.core_laws.specs.Record.{Record}
use Rattle.core_laws.specs.MakingContents.{MayMake}
use Rattle.core_laws.specs.Stores.{stored_in}
use Rattle.core_laws.specs.Positions.{next_position, position_after}
use Rattle.core_laws.specs.Worlds.{World, is_edit}
use Rattle.core_laws.specs.contents.Versions.{SameWorld}

-- the version whose cells an undo or a redo after these records gives
abbrev pub version_gone_to : List Record → Act → ℕ
version_gone_to records act = (next_position (length records + 1) act (position_after records)).now

-- the act after these records makes these cells: an edit of the newest ones, an undo or a redo
-- those of the version that it goes to
pub record Makes (side : ℕ) (models : List Content) (records : List Record) (act : Act)
    (cells : World) : Type 0 where
  pub edit : is_edit act ≡ true
      → MayMake side models act (stored_in side models records (length records)) cells
  pub other : is_edit act ≡ false
      → SameWorld side cells (stored_in side models records (version_gone_to records act))
