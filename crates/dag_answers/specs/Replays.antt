-- How a legal history is replayed with its marks, in the order of their moments.
use Rattle.std.specs.Prelude.{◌≡◌, ◌≢◌, ℕ, ◌^◌, ◌<◌, ◌≤◌, List, take, drop, length, All, Result, IfOk}
use Rattle.std.specs.List.{AllPairs, Contains}
use Rattle.vox_read.specs.Contents.{AreModels, Content}
use Rattle.history_model.specs.declared.histories.Mark.{Mark}
use Rattle.history_model.specs.Logs.{Log, SuitsTints}
use Rattle.node_words.specs.Plans.{Layout}
use Rattle.store_run.specs.Kept.{IsLargeStore}
use Rattle.store_run.specs.Replaying.{AreLegalRecords, MakesOnlyParts}
use Rattle.store_run.specs.Marked.{AreLegalMarks, replayed}
use Rattle.store_run.specs.Worlds.{WorldState}
use Rattle.dag_answers.specs.declared.making.HistoryRefused.{HistoryRefused}

-- the same marks, by their moments
pub record AreDue (marks due : List Mark) : Type 0 where
  pub rising : AllPairs (λ a b. a.at ≤ b.at) due
  pub same : (m : Mark) → Contains due m → Contains marks m
  pub all : (m : Mark) → Contains marks m → Contains due m
  pub once : AllPairs (λ a b. a.version ≢ b.version) due

-- these are the marks of a history, by their moments
pub record AreDueMarks (log : Log) (ms : List Mark) : Type 0 where
  pub marks : AreLegalMarks (length log.records) log.marks
  pub due : AreDue log.marks ms

-- the history keeps the rules, and its side is large enough for a store of its kind
pub record MayReplayStored (ms : List Content) (log : Log) : Type 0 where
  pub models : AreModels ms
  pub suits : SuitsTints log
  pub large : IsLargeStore log.coloured log.side
  pub marks : AreLegalMarks (length log.records) log.marks
  pub records : AreLegalRecords (2 ^ log.side) ms log.marks log.records

-- where there is no refusal the world is one of this plan, these models and this history
pub record GivesWorldOf (p : Layout) (ms : List Content) (history : Log)
    (result : Result WorldState HistoryRefused) : Type 0 where
  pub plan : IfOk result (λ w. w.plan ≡ p)
  pub models : IfOk result (λ w. w.models ≡ ms)
  pub log : IfOk result (λ w. w.log ≡ history)

-- the first n records were replayed, with just the first k of the marks that are due, none of which
-- is of a later moment, and none of the others of an earlier one
pub record HasReplayed (models : List Content) (log : Log) (due : List Mark) (n k : ℕ)
    (now : WorldState) : Type 0 where
  pub side : now.plan.side ≡ log.side
  pub log_side : now.log.side ≡ log.side
  pub coloured : now.log.coloured ≡ log.coloured
  pub models_are : now.models ≡ models
  pub records : now.log.records ≡ take n log.records
  pub many : length now.log.records ≡ n
  pub there : n ≤ length log.records
  pub rising : AllPairs (λ a b. a.version < b.version) now.log.marks
  pub marks : (m : Mark) → Contains now.log.marks m → Contains (take k due) m
  pub all : (m : Mark) → Contains (take k due) m → Contains now.log.marks m
  pub past : All (λ m. m.at ≤ n) (take k due)
  pub left : All (λ m. n ≤ m.at) (drop k due)
  pub made : MakesOnlyParts (replayed now)
