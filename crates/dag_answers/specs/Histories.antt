-- The file of the versions of a history that have no mark.
use Rattle.std.specs.Prelude.{◌↔◌, ℕ, ◌-◌, ◌^◌, List, ⊤}
use Rattle.vox_read.specs.Contents.{Content}
use Rattle.history_model.specs.Logs.{Log}
use Rattle.history_model.specs.Stores.{store_has}
use Rattle.node_words.specs.Plans.{Layout}
use Rattle.core_laws.specs.contents.Versions.{HoldsVersion, SameWorld}
use Rattle.store_run.specs.declared.replaying.ReplayRefused.{ReplayRefused}
use Rattle.store_run.specs.declared.replaying.ReplayRefused.TheVariants as replays
use Rattle.store_run.specs.Replaying.{AreLegalRecords, MayFillAlong, replay_plan}
use Rattle.dag_file.specs.Kept.{AreBytes}
use Rattle.dag_file.specs.Rules.{IsDagFile}
use Rattle.dag_file.specs.Trees.{IsVersion, HasVersion}
use Rattle.dag_answers.specs.Legality.{IsFirstIllegal}
use Rattle.dag_answers.specs.Looks.{version_has}
use Rattle.dag_answers.specs.declared.making.HistoryRefused.{HistoryRefused}
use Rattle.dag_answers.specs.declared.making.HistoryRefused.TheVariants as refusals

-- the file keeps all rules, has just the versions that the history keeps, and gives each the cells
-- that a store keeps of it
pub record IsFileOfHistory (models : List Content) (log : Log) (file : List ℕ) : Type 0 where
  pub bytes : AreBytes file
  pub right : IsDagFile file (log.side - 1)
  pub versions : (v : ℕ) → HasVersion file (log.side - 1) v ↔ HoldsVersion log v
  pub cells : (v i : ℕ) → IsVersion file (log.side - 1) v i
      → SameWorld (2 ^ log.side) (version_has file log.side i) (store_has models log v)

-- what a refusal of a replay over a plan says: a bucket is full where all records keep the rules,
-- and want of memory says nothing
abbrev pub RefusesHistoryOver : Layout → List Content → Log → HistoryRefused → Type 0
RefusesHistoryOver p models log (refusals.Illegal n) = IsFirstIllegal (2 ^ log.side) models log n
RefusesHistoryOver p models log (refusals.Full full) =
    AreLegalRecords (2 ^ log.side) models log.marks log.records
    × MayFillAlong p models log.marks log.records full
RefusesHistoryOver p models log refusals.Memory = ⊤

-- the same over the plan of a store over which a whole history is replayed
abbrev pub RefusesHistory : List Content → Log → HistoryRefused → Type 0
RefusesHistory models log why = RefusesHistoryOver (replay_plan log.side) models log why

abbrev pub of_replay : ReplayRefused → HistoryRefused
of_replay (replays.Full full) = refusals.Full full
of_replay replays.Memory = refusals.Memory
