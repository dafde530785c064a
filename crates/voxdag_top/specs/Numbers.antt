-- The statuses with which the program ends, each with its number.
use Rattle.std.specs.Prelude.{◌≡◌, ◌⊎◌, ℕ}

pub data Status : Type 0 where
  Finished : Status
  Misuse : Status
  MissingInput : Status
  FailedInput : Status
  FaultyVox : Status
  FaultyScript : Status
  FailedOutput : Status
  FailedLine : Status
  LackingMemory : Status
  LongInput : Status
  NoSuchPlace : Status
  FaultyScene : Status
  FaultyJournal : Status
  FilledStore : Status
  FaultyDag : Status
  FaultyTranscript : Status

abbrev pub status_number : Status → ℕ
status_number Finished = 0
status_number Misuse = 1
status_number MissingInput = 2
status_number FailedInput = 3
status_number FaultyVox = 4
status_number FaultyScript = 5
status_number FailedOutput = 6
status_number FailedLine = 7
status_number LackingMemory = 8
status_number LongInput = 9
status_number NoSuchPlace = 10
status_number FaultyScene = 11
status_number FaultyJournal = 12
status_number FilledStore = 13
status_number FaultyDag = 14
status_number FaultyTranscript = 15

-- the number of this status, or of a line which could not be put, or of want of memory
abbrev pub IsOr : Status → ℕ → Type 0
IsOr status result =
    (result ≡ status_number status) ⊎ (result ≡ status_number FailedLine)
    ⊎ (result ≡ status_number LackingMemory)
