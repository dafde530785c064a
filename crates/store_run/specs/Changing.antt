-- What a change that is asked for makes of a history, answer by answer.
use Rattle.std.specs.Prelude.{◌≡◌, ◌≢◌, ℕ, ◌+◌, ◌<◌, ◌≤◌, true, false, Some, None, List, [], ◌∷◌, ◌++◌, length}
use Rattle.vw_cell.specs.declared.cells.Cell.{Cell}
use Rattle.vox_read.specs.Contents.{Content}
use Rattle.history_model.specs.declared.acts.Act.{Act}
use Rattle.history_model.specs.declared.histories.Record.{Record}
use Rattle.history_model.specs.declared.histories.Mark.{Mark}
use Rattle.history_model.specs.Logs.{Log}
use Rattle.history_model.specs.Worlds.{is_edit, edited}
use Rattle.history_model.specs.Moments.{world_has, world_tint}
use Rattle.history_model.specs.Tints.{tints_by}
use Rattle.node_words.specs.Plans.{Layout}
use Rattle.core_laws.specs.contents.Versions.{HoldsVersion, InsertsMark}
use Rattle.transcript.specs.declared.answers.Answer.{Answer}
use Rattle.transcript.specs.declared.answers.Answer.TheVariants as answers
use Rattle.conformance.specs.Answers.{target_at}
use Rattle.conformance.specs.Running.{PushesOut}
use Rattle.store_run.specs.Answering.{nothing_to_go_to}
use Rattle.store_run.specs.Worlds.{WorldState}

-- the history with one more record
abbrev pub log_with_record : Log → Record → Log
log_with_record log r = record {
  side = log.side;
  coloured = log.coloured;
  records = log.records ++ r ∷ [];
  marks = log.marks;
}

-- the act is an undo or a redo, and goes to this version
pub record GoesToVersion (log : Log) (act : Act) (to : ℕ) : Type 0 where
  pub other : is_edit act ≡ false
  pub goes : target_at log.records (length log.records) act ≡ Some to

-- it is an edit, or there is a version for it to go to that isn't forgotten
pub record HasHeldTarget (log : Log) (act : Act) : Type 0 where
  pub other : is_edit act ≡ false → (to : ℕ) × GoesToVersion log act to × HoldsVersion log to

-- an act is answered: the record comes behind the others, or the history stays. A history has
-- 65,535 records at most
pub data Changes (log : Log) (r : Record) : Answer → Log → Type 0 where
  done : (new : Log) → length log.records < 65535 → HasHeldTarget log r.act
      → new ≡ log_with_record log r
      → Changes log r answers.Done new
  full : (new : Log) (level bucket : ℕ) → is_edit r.act ≡ true → new ≡ log
      → Changes log r (answers.Full level bucket) new
  log_full : (new : Log) → length log.records ≡ 65535 → HasHeldTarget log r.act → new ≡ log
      → Changes log r answers.LogFull new
  forgotten : (new : Log) (to : ℕ) → GoesToVersion log r.act to → ¬ HoldsVersion log to → new ≡ log
      → Changes log r (answers.Forgotten to) new
  nothing : (new : Log) → is_edit r.act ≡ false
      → target_at log.records (length log.records) r.act ≡ None → new ≡ log
      → Changes log r (nothing_to_go_to r.act) new

-- an act is answered where the last `keep` versions alone are held, with 0 all: where it becomes a
-- record, the version that this pushes out gets its mark, by the record's session and line, where
-- it has none
pub record ChangesKeeping (keep : ℕ) (p : Layout) (models : List Content) (log : Log) (r : Record)
    (answer : Answer) (new : Log) : Type 0 where
  pub before : Log
  pub changes : Changes log r answer before
  pub pushes : answer ≡ answers.Done → PushesOut keep p models r.session r.line before new
  pub stays : answer ≢ answers.Done → new ≡ before

-- the version that the newest record pushed out is forgotten, as this line of this session, where
-- it has no mark; nothing else changes
pub record ForgetsFallen (keep : ℕ) (old : WorldState) (session line : ℕ)
    (new : WorldState) : Type 0 where
  pub plan : new.plan ≡ old.plan
  pub models : new.models ≡ old.models
  pub noted : new.noted ≡ old.noted
  pub pushes : PushesOut keep old.plan old.models session line old.log new.log

-- the mark comes to its version, and nothing else changes
pub record LogGainsMark (log : Log) (mark : Mark) (new : Log) : Type 0 where
  pub kept : HoldsVersion log mark.version
  pub earlier : mark.version < length log.records
  pub side : new.side ≡ log.side
  pub coloured : new.coloured ≡ log.coloured
  pub records : new.records ≡ log.records
  pub marks : InsertsMark log.marks mark new.marks

-- a version is to be forgotten by this mark, and is, or the history stays
pub data AnswersForget (log : Log) (mark : Mark) : Answer → Log → Type 0 where
  forgot : (new : Log) → LogGainsMark log mark new
      → AnswersForget log mark (answers.Forgot mark.version) new
  no_version : length log.records < mark.version
      → AnswersForget log mark (answers.NoVersion mark.version) log
  forgotten : mark.version ≤ length log.records → ¬ HoldsVersion log mark.version
      → AnswersForget log mark (answers.Forgotten mark.version) log
  is_head : mark.version ≡ length log.records → AnswersForget log mark answers.IsHead log

-- there is one version more: it has what the act makes of the one before, or what the version has
-- that an undo or a redo goes to; and each earlier one has what it had: cells, and their tints
pub record MakesVersion (models : List Content) (old : Log) (act : Act) (new : Log) : Type 0 where
  pub one_more : length new.records ≡ length old.records + 1
  pub earlier : (v : ℕ) → v ≤ length old.records → (c : Cell)
      → world_has models new.records v c ≡ world_has models old.records v c
  pub edit : is_edit act ≡ true → (c : Cell)
      → world_has models new.records (length old.records + 1) c
      ≡ edited models act (world_has models old.records (length old.records)) c
  pub other : (to : ℕ) → GoesToVersion old act to → (c : Cell)
      → world_has models new.records (length old.records + 1) c
      ≡ world_has models old.records to c
  pub tints_earlier : (v : ℕ) → v ≤ length old.records → (c : Cell)
      → world_tint models new.records v c ≡ world_tint models old.records v c
  pub tints_edit : is_edit act ≡ true → (c : Cell)
      → world_tint models new.records (length old.records + 1) c
      ≡ tints_by models act (world_tint models old.records (length old.records)) c
  pub tints_other : (to : ℕ) → GoesToVersion old act to → (c : Cell)
      → world_tint models new.records (length old.records + 1) c
      ≡ world_tint models old.records to c
