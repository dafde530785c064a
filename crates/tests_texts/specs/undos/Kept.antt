-- Words of records that were kept one after another.
use Rattle.std.specs.Prelude.{◌≡◌, ℕ, ◌+◌, ◌<◌, ◌≤◌, List, [], length, slice_index_or}
use Rattle.history_model.specs.declared.histories.Record.{Record}
use Rattle.undo.specs.Targets.{words_at}

-- the words of the first records
pub record AreFirstWords (records : List Record) (words : List (List ℕ)) : Type 0 where
  pub each : (k : ℕ) → k < length words
      → slice_index_or words k [] ≡ words_at records (k + 1)

-- the words of all records
pub record AreWords (records : List Record) (words : List (List ℕ)) : Type 0 where
  pub number : length words ≡ length records
  pub first : AreFirstWords records words

-- the words of all records, of which the first are shown
pub record IsPackedLog (records : List Record) (words : List (List ℕ)) (shown : ℕ) : Type 0 where
  pub kept : AreWords records words
  pub within : shown ≤ length records
  pub few : length records ≤ 65535
