-- How many different contents the blocks of each level have in the versions that are kept.
use Rattle.std.specs.Prelude.{◌≡◌, ℕ, ◌+◌, ◌≤◌, List, length, slice_index}
use Rattle.std.specs.List.{sum}
use Rattle.history_model.specs.Contents.{Content}
use Rattle.history_model.specs.Logs.{Log}
use Rattle.history_model.specs.Stores.{store_has}
use Rattle.core_laws.specs.contents.Aligned.{top, world_block}
use Rattle.core_laws.specs.contents.Contents.{HasContents}
use Rattle.core_laws.specs.contents.Versions.{HoldsVersion}

-- the kept versions' aligned blocks of this level have so many different contents with a set cell
abbrev pub HasNumber : List Content → Log → ℕ → ℕ → Type 0
HasNumber models log level number =
    HasContents (world_block log.side) (λ v. store_has models log v) (HoldsVersion log) level
    number

-- one number for each level, from level 0 to that of the whole world
pub record AreNumbers (models : List Content) (log : Log) (numbers : List ℕ) : Type 0 where
  pub as_many : length numbers ≡ top log.side + 1
  pub each : (level : ℕ) → level ≤ top log.side
      → HasNumber models log level (slice_index numbers level)

-- their sum
pub record IsTotal (models : List Content) (log : Log) (total : ℕ) : Type 0 where
  pub numbers : List ℕ
  pub are : AreNumbers models log numbers
  pub adds_up : total ≡ sum numbers
