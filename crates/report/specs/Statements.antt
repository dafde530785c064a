-- What the laws of this crate say.
use Rattle.std.specs.Prelude.{◌≡◌, ℕ, ◌≤◌, ◌+◌, List, length, slice_index}
use Rattle.history_model.specs.Contents.{Content}
use Rattle.history_model.specs.Logs.{Log}
use Rattle.node_words.specs.Plans.{Layout}
use Rattle.core_laws.specs.contents.Aligned.{top}
use Rattle.core_laws.specs.States.{State}
use Rattle.core_laws.specs.Soundness.{Sound}
use Rattle.core_laws.specs.Blocks.{IsIdle, live_number}
use Rattle.report.specs.Numbers.{HasNumber, AreNumbers}
use Rattle.report.specs.Reports.{IsReport}
use Rattle.report.specs.Roots.{RootsNameWorlds}

-- two kept versions of a sound state have one root just where they have the same cells
abbrev pub SoundRootsTellWorlds : Type 0
SoundRootsTellWorlds = (p : Layout) (models : List Content) (state : State) → 2 ≤ p.side
    → Sound p models state → RootsNameWorlds models state.log state.root

-- where nobody holds a share, the live entries of each level are that level's number
abbrev pub LiveEntriesAreNumbers : Type 0
LiveEntriesAreNumbers = (p : Layout) (models : List Content) (state : State) (numbers : List ℕ)
    → 2 ≤ p.side → Sound p models state → IsIdle state → length numbers ≡ top p.side + 1
    → ((level : ℕ) → level ≤ top p.side → slice_index numbers level ≡ live_number p state level)
    → AreNumbers models state.log numbers

-- a level has one number
abbrev pub LevelsHaveOneNumber : Type 0
LevelsHaveOneNumber = (models : List Content) (log : Log) (level a b : ℕ)
    → HasNumber models log level a → HasNumber models log level b → a ≡ b

-- a history has one report
abbrev pub HistoriesHaveOneReport : Type 0
HistoriesHaveOneReport = (models : List Content) (log : Log) (a b : List ℕ)
    → IsReport models log a → IsReport models log b → a ≡ b
