-- What it is to go on with the world that stands behind a journal.
use Rattle.std.specs.Prelude.{◌≡◌, ◌≢◌, ℕ, ◌+◌, ◌^◌, ◌≤◌, IsTrue, List, Option, Some, None, length, ⊤}
use Rattle.vox_read.specs.Contents.{Content}
use Rattle.history_model.specs.declared.reading.JournalFault.{JournalFault}
use Rattle.history_model.specs.declared.reading.JournalFault.TheVariants.{Line, Memory}
use Rattle.history_model.specs.Entries.{HasJournal}
use Rattle.history_model.specs.Journal.{journal_of}
use Rattle.history_model.specs.Logs.{Log, IsLegal}
use Rattle.history_model.specs.Refusals.{RefusesJournal}
use Rattle.node_words.specs.declared.shares.Full.{Full}
use Rattle.node_words.specs.Plans.{Layout, usual_buckets, is_cap}
use Rattle.store_run.specs.Replaying.{MayFillAlong}
use Rattle.dag_answers.specs.declared.making.HistoryRefused.{HistoryRefused}
use Rattle.dag_answers.specs.declared.making.HistoryRefused.TheVariants as histories
use Rattle.dag_answers.specs.Legality.{IsFirstIllegal}
use Rattle.voxdag_c.specs.declared.held.worlds.CWorld.{CWorld}
use Rattle.voxdag_c.specs.held.Calls.{AsksForModels, AreSlots, RefusesModels, store_side}

-- buckets can have so many slots; 0 asks for the usual number
abbrev pub IsCapAsked : ℕ → Type 0
IsCapAsked cap = cap ≢ 0 → IsTrue (is_cap cap)

-- the plan of the store of a world whose side has this exponent, with so many slots of a bucket
pub record IsPlanAsked (side cap : ℕ) (p : Layout) : Type 0 where
  pub side_is : p.side ≡ side
  pub buckets : p.buckets ≡ usual_buckets
  pub slots : AreSlots cap p.cap

-- the bytes of a file give models, and a journal tells a history
pub record IsToldOver (bytes journal : List ℕ) (models : List Content) (log : Log) : Type 0 where
  pub models_are : AsksForModels bytes models
  pub has : HasJournal log
  pub is : journal ≡ journal_of log

-- the world that stands behind a journal: it has the journal's history, which is a legal one, and
-- from now on keeps so many versions; the line of what comes next counts what it has
pub record IsGoneOn (cap keep : ℕ) (bytes journal : List ℕ) (w : CWorld) : Type 0 where
  pub told : IsToldOver bytes journal w.open.models w.open.log
  pub legal : IsLegal (store_side w) w.open.models w.open.log
  pub plan : IsPlanAsked w.open.log.side cap w.open.plan
  pub keep_is : w.keep ≡ keep
  pub line : w.line ≡ length w.open.log.records + length w.open.log.marks + 1

-- the records of a history may fill a bucket
pub record FillsBehind (cap : ℕ) (bytes journal : List ℕ) (models : List Content) (log : Log)
    : Type 0 where
  pub told : IsToldOver bytes journal models log
  pub legal : IsLegal (2 ^ log.side) models log
  pub plan : Layout
  pub asked : IsPlanAsked log.side cap plan
  pub bucket : Full
  pub fills : MayFillAlong plan models log.marks log.records bucket

-- why no world stands behind a journal, and which line of it is told: that of record n is n + 2
pub data RefusesToGoOn (cap : ℕ) (bytes journal : List ℕ) (old line : ℕ) : ℕ → Type 0 where
  bad_plan : ¬ IsCapAsked cap → line ≡ old → RefusesToGoOn cap bytes journal old line 12
  no_models : (status : ℕ) → IsCapAsked cap → RefusesModels bytes status → line ≡ old
      → RefusesToGoOn cap bytes journal old line status
  bad_journal : (models : List Content) → IsCapAsked cap → AsksForModels bytes models
      → RefusesJournal (Line line) journal → RefusesToGoOn cap bytes journal old line 18
  not_legal : (models : List Content) (log : Log) (n : ℕ) → IsCapAsked cap
      → IsToldOver bytes journal models log
      → IsFirstIllegal (2 ^ log.side) models log n → line ≡ n + 2
      → RefusesToGoOn cap bytes journal old line 19
  full : (models : List Content) (log : Log) → IsCapAsked cap
      → FillsBehind cap bytes journal models log → line ≡ old
      → RefusesToGoOn cap bytes journal old line 9
  memory : IsCapAsked cap → line ≡ old → RefusesToGoOn cap bytes journal old line 2

-- the number that C gets for a journal's fault, and the line that is told
abbrev pub PutsFault : JournalFault → ℕ → ℕ → ℕ → Type 0
PutsFault (Line n) old new status = (new ≡ n) × (status ≡ 18)
PutsFault Memory old new status = (new ≡ old) × (status ≡ 2)

-- the same where no world stands behind a history
abbrev pub PutsWhy : HistoryRefused → ℕ → ℕ → ℕ → Type 0
PutsWhy (histories.Illegal n) old new status = (new ≡ n + 2) × (status ≡ 19)
PutsWhy (histories.Full b) old new status = (new ≡ old) × (status ≡ 9)
PutsWhy histories.Memory old new status = (new ≡ old) × (status ≡ 2)

-- a record that is told is one of 65,536
abbrev pub IsFewAt : HistoryRefused → Type 0
IsFewAt (histories.Illegal n) = n ≤ 65536
IsFewAt other = ⊤

-- a world is gone on with in a handle that has none
pub data GoesOnInHandle (cap keep : ℕ) (bytes journal : List ℕ) (old line : ℕ)
    : Option CWorld → ℕ → Option CWorld → Type 0 where
  is_open : (w : CWorld) → line ≡ old
      → GoesOnInHandle cap keep bytes journal old line (Some w) 13 (Some w)
  refused : (status : ℕ) → RefusesToGoOn cap bytes journal old line status
      → GoesOnInHandle cap keep bytes journal old line None status None
  gone_on : (w : CWorld) → IsGoneOn cap keep bytes journal w → line ≡ old
      → GoesOnInHandle cap keep bytes journal old line None 0 (Some w)
