-- What an audit keeps of a replayed history.
use Rattle.std.specs.Prelude.{◌≡◌, ◌≤◌, ◌^◌, All, List, Option, length}
use Rattle.vox_read.specs.Contents.{AreModels}
use Rattle.history_model.specs.Contents.{Content}
use Rattle.history_model.specs.declared.histories.Mark.{Mark}
use Rattle.history_model.specs.Logs.{FitsWorld, Log, SuitsTints}
use Rattle.node_words.specs.Plans.{Layout}
use Rattle.script.specs.declared.commands.ScriptLine.{ScriptLine}
use Rattle.script.specs.Fitting.{CommandFits, RisesFrom}
use Rattle.store_run.specs.Kept.{IsLargeStore}
use Rattle.store_run.specs.Marked.{AreLegalMarks}
use Rattle.store_run.specs.Replaying.{ReplayState}
use Rattle.audit.specs.declared.replaying.UndoTargets.{UndoTargets}
use Rattle.audit.specs.Marks.{TellsMarks}
use Rattle.audit.specs.Replaying.{AreUndoTargets}

-- the records are few, the marks legal and told by the table, and each act lies in the world
pub record MayRunAgain (models : List Content) (log : Log)
    (table : List (Option Mark)) : Type 0 where
  pub few : length log.records ≤ 65535
  pub marks : AreLegalMarks (length log.records) log.marks
  pub tells : TellsMarks log.marks table
  pub fit : All (λ r. FitsWorld (2 ^ log.side) models r.act) log.records

-- a history of these models can be replayed by the plan, whose side is its own
pub record MayReplay (p : Layout) (ms : List Content) (log : Log) : Type 0 where
  pub models : AreModels ms
  pub suits : SuitsTints log
  pub large : IsLargeStore log.coloured log.side
  pub side : p.side ≡ log.side

-- and it can be audited by another plan of this side, if its acts suit it
pub record MayAudit (judged p : Layout) (ms : List Content) (log : Log) : Type 0 where
  pub models : AreModels ms
  pub large : IsLargeStore log.coloured log.side
  pub side : judged.side ≡ log.side
  pub replayed : p.side ≡ log.side

-- the scripts are of the history's world, by lines that rise, and no more than there are sessions
pub record AreScriptsFor (models : List Content) (log : Log)
    (scripts : List (List ScriptLine)) : Type 0 where
  pub fits : All (All (λ l. CommandFits log.coloured (2 ^ log.side) models l.command)) scripts
  pub rise : All (RisesFrom 1) scripts
  pub few : length scripts ≤ 64

-- all records are replayed, in a world of the history's kind, and where undos and redos go and the
-- marks of versions are told
pub record IsRerun (log : Log) (replay : ReplayState) (ways : List UndoTargets)
    (table : List (Option Mark)) : Type 0 where
  pub tint : replay.tint ≡ log.coloured
  pub records : replay.records ≡ log.records
  pub side : replay.plan.side ≡ log.side
  pub few : length log.records ≤ 65535
  pub are_ways : AreUndoTargets log.records ways
  pub tells : TellsMarks log.marks table
